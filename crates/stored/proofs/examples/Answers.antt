-- `stored::examples` meets its contract: all of it computes.
use mathlib.Core.Path.{refl}
use Rattle.meaning.specs.Encoding.{number_items}
use Rattle.stored.specs.Stored.{number_bytes, numbers_bytes, layout_bytes, chain_bytes, bits_of}
use Rattle.stored.proofs.examples.Goals as goal

pub returns : goal.returns
unfolding number_bytes numbers_bytes layout_bytes chain_bytes bits_of number_items
returns c = record { low_first = refl; positive = refl; minus_one = refl; least = refl; layout = refl; chain = refl }
