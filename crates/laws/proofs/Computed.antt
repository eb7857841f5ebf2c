-- The examples, each by computation where it stands.
use mathlib.Core.Path.{refl}
use Rattle.meaning.specs.Kinds.{lookup}
use Rattle.meaning.specs.Reader.{due, little}
use Rattle.meaning.specs.ReadExpr.{expr_body, expr_after, read_expr}
use Rattle.meaning.specs.ReadType.{head}
use Rattle.meaning.specs.Encoding.{number_items, expr_items, head_items, type_items, definition_items, bundle_items, bundle_bytes}
use Rattle.meaning.proofs.Examples.{circle_self}
use Rattle.laws.specs.Examples.{Examples}

pub computed : Examples
unfolding bundle_bytes bundle_items number_items definition_items type_items head_items expr_items read_expr expr_after expr_body head due little lookup
computed = record {
  circle_self = circle_self;
  sample_written = refl;
  deep_enough = refl;
  too_deep = refl;
  stranger = refl;
  short_before_scale = refl;
  off_scale = refl;
  renumbered = refl;
}
