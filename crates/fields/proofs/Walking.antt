-- Walking over the fields of a struct.
use Prim.Native.Nat.{ℕ, ◌-◌, ◌≤◌, ◌<◌}
use native.Mathlib.Omega.{arith}
use mathlib.Core.Path.{◌≡◌, sym, ap, subst, ◌∙◌}
use mathlib.Core.List.{List}
use Rattle.meaning.specs.Tree.{primitive, Member, member, none, more}
use Rattle.meaning.specs.ReadType.{read_ty, read_member, read_members}
use Rattle.bundle.specs.View.{Reads}
use Rattle.bundle.specs.Definitions.{type_at, members_at, Table}
use Rattle.bundle.proofs.LookupLaws.{placed_at}
use Rattle.bundle.proofs.Trees.{many_first, many_rest, many_value}
use Rattle.fields.specs.declared.Field.{Field}
use Rattle.fields.specs.declared.Place.{Place}
use Rattle.fields.specs.Shapes.{FieldAt, PlacedAt}

-- a member with nothing in it, for where none was read
abbrev zero_member : Member
zero_member = member 0 0 (primitive 0)

-- of `count` fields, those but the last `left`, which stand at `next`, are passed
pub record Passing (d : ℕ) (s : List ℕ) (count left next : ℕ) : Type 0 where
  pub bound : left ≤ count
  pub reads : Reads (read_members (read_ty d) 0x50 left s next)

module _ {d : ℕ} {s : List ℕ} {count left next : ℕ} (p : Passing d s count left next) (h : 0 < left) where
  pub field_reads : Reads (read_member (read_ty d) 0x50 s next)
  field_reads = many_first more none (read_member (read_ty d) 0x50) s zero_member left next h p.reads

  module _ {f : Field} (g : FieldAt d s next f) where
    pub passing_next : Passing d s count (left - 1) f.next
    passing_next = record {
      bound = omega (arith, p.bound);
      reads = many_rest more none (read_member (read_ty d) 0x50) s zero_member left next f.next h g.ends p.reads;
    }

    pub passing_tree : members_at d 0x50 left s next ≡ more (member f.name g.value (type_at d s f.at)) (members_at d 0x50 (left - 1) s f.next)
    passing_tree =
        many_value more none (read_member (read_ty d) 0x50) s zero_member left next f.next h g.ends p.reads
        ∙ ap (λ m. more m (members_at d 0x50 (left - 1) s f.next)) (g.is zero_member)

-- the type of a definition was read
pub placed_reads : {s : List ℕ} {n : ℕ} {places : List ℕ} → Table s n places → {i : ℕ} → i < n → {p : Place} → PlacedAt s places i p → Reads (read_ty 24 s p.at)
placed_reads {s} t {i} h g = subst (λ k. Reads (read_ty 24 s k)) (sym g.at) (placed_at t i h).reads
