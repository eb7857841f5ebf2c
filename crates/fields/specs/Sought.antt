-- The fields that are sought, and how the code shows an index.
use Rattle.std.specs.Prelude.{ℕ, suc, Bool, eqb}
use Rattle.std.proofs.Math.Option.{Option, none, some}
use Rattle.meaning.specs.Tree.{Member}
use Rattle.meaning.specs.Lookup.{member_name, member_type, refers_to}

-- the field is a TypeRef to x
abbrev pub refers : ℕ → Member → Bool
refers x m = refers_to x (member_type m)

-- the field has the name x
abbrev pub named : ℕ → Member → Bool
named x m = eqb x (member_name m)

-- one more than an index, and 0 where there is none
abbrev pub shown : Option ℕ → ℕ
shown none = 0
shown (some i) = suc i
