-- What is due to a call for the value of an array's size (request L2).
use Rattle.std.specs.Prelude.{ℕ, cond, List}
use Rattle.std.proofs.Math.Option.{Option, none, some}
use Rattle.meaning.specs.Tree.{Ty, primitive, type_ref, struct, union, enum, array, size_union, Bundle}
use Rattle.meaning.specs.Reader.{Read, ok, refused}
use Rattle.meaning.specs.ReadBundle.{read_bundle}
use Rattle.meaning.specs.Circle.{circles}
use Rattle.meaning.specs.Lookup.{type_at}
use Rattle.fixed_meaning.specs.Value.{Value, unvalued, value_of}

-- the value of the size of an array, jagged or not; what is no array, or no definition, is refused with 11
unfoldable pub array_value : Option Ty → Value
array_value none = unvalued 11
array_value (some (primitive k)) = unvalued 11
array_value (some (type_ref n)) = unvalued 11
array_value (some (struct a ms)) = unvalued 11
array_value (some (union a ms)) = unvalued 11
array_value (some (enum a tag ms)) = unvalued 11
array_value (some (array a jagged size element)) = value_of size
array_value (some (size_union a ms)) = unvalued 11

-- what is due where this was read: the fault that was found, 8 where the bundle circles, and else what f gives for the bundle
unfoldable pub value_due : (Bundle → Value) → Read Bundle → Value
value_due f (ok b n) = cond (circles b) (unvalued 8) (f b)
value_due f (refused k) = unvalued k

-- what is due to a call for definition i with these bytes
unfoldable pub valuing : ℕ → List ℕ → Value
valuing i s = value_due (λ b. array_value (type_at b i)) (read_bundle s)
