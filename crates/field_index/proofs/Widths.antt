-- A field takes four bytes at least and a reference two more, so that the notes of a bundle take at most three places for every two bytes.
use Rattle.std.specs.Prelude.{Ok}
use Prim.Native.Nat.{ℕ, zero, suc, ◌+◌, ◌-◌, ◌*◌, ◌≤◌, ◌<◌}
use native.Mathlib.Omega.{arith}
use mathlib.Core.Path.{◌≡◌, sym, ap, ◌∙◌}
use mathlib.Core.List.{List}
use lib.ListN.{length, length-append, length-map, get_or}
use Rattle.meaning.specs.Limits.{depth_limit}
use Rattle.meaning.specs.Reader.{many}
use Rattle.meaning.specs.ReadType.{member_head, read_members, read_ty}
use Rattle.meaning.specs.References.{collect_field_references_in_type_kind, references_in_members}
use Rattle.bundle.specs.View.{step_of}
use Rattle.bundle.specs.Definitions.{type_at, members_at, Table}
use Rattle.bundle.proofs.LookupLaws.{place_ends}
use Rattle.bundle.proofs.Trees.{ended, ended_reads}
use Rattle.bundle.proofs.Heads.{member_where}
use Rattle.bundle.proofs.PartTrees.{member_type_reads, members_split}
use Rattle.bundle.proofs.Parts.{own_reads, others_end}
use Rattle.sizes.specs.Scan.{path_at, references_from}
use Rattle.sizes.proofs.ReferenceLaws.{type_bound, type_references, type_wide}
use Rattle.fields.specs.Shapes.{StructAt}
use Rattle.field_index.specs.Noted.{references_of}

-- as many references as the tree has
counted : (s : List ℕ) (d at m : ℕ) → d ≤ depth_limit → Ok m ≡ step_of (read_ty d s at)
    → length (references_from s at m) ≡ length (collect_field_references_in_type_kind (type_at d s at))
counted s d at m l e = sym (length-map (references_from s at m) (path_at s)) ∙ ap length (type_references d at m s l e)

-- n fields that were read at a position and end at m
module _ (s : List ℕ) (d : ℕ) (l : d ≤ depth_limit) where
  abbrev Wide : ℕ → ℕ → ℕ → Type 0
  Wide n at m = (at + 4 * n + 2 * length (references_in_members (members_at d 0x50 n s at)) ≤ m) × (m ≤ length s)

  -- the first of them
  member_wide : (n at m : ℕ) → 0 < n → Ok m ≡ step_of (read_members (read_ty d) 0x50 n s at)
      → ((i : ℕ) → i ≤ length s → Ok m ≡ step_of (read_members (read_ty d) 0x50 (n - 1) s i) → Wide (n - 1) i m) → Wide n at m
  member_wide n at m c e later =
      let r = ended_reads (read_members (read_ty d) 0x50 n s at) m e in
      let own = ended (member_head 0x50 s at) (own_reads d 0x50 s n at c r) in
      let w = member_where 0x50 at own.0 s own.1 in
      let type = ended (read_ty d s own.0) (member_type_reads d 0x50 s n at c r own.0 own.1) in
      let here = type_wide d own.0 type.0 s l type.1 in
      let rest = later type.0 (type_bound d own.0 type.0 s l type.1) (e ∙ others_end d 0x50 s n at c r own.0 type.0 own.1 type.1) in
      let k = counted s d own.0 type.0 l type.1 in
      rw (members_split d 0x50 s n at c r own.0 own.1 type.0 type.1)
      (rw length-append (omega (arith, w.ends, here, k, rest.0)), rest.1)

  members_wide : (n at m : ℕ) → at ≤ length s → Ok m ≡ step_of (read_members (read_ty d) 0x50 n s at) → Wide n at m
  unfolding many
  members_wide zero at m b e = let p : m ≡ at = cc in rw p (omega arith, b)
  members_wide (suc n) at m b e =
      let q : suc n - 1 ≡ n = omega arith in
      member_wide (suc n) at m (omega arith) e (rw q (λ i b e. members_wide n i m b e))

-- where definition i stands, and where the next one would
module _ {s : List ℕ} {count : ℕ} {places : List ℕ} (t : Table s count places) {i : ℕ} (l : i < count) where
  ends : Ok (get_or places (i + 1) 0 - 3) ≡ step_of (read_ty 24 s (get_or places i 0))
  ends = (place_ends t i l).1

  pub place_next : get_or places i 0 + 2 * length (references_of s places i) ≤ get_or places (i + 1) 0
  place_next = omega (arith, type_wide 24 (get_or places i 0) (get_or places (i + 1) 0 - 3) s (omega arith) ends)

  pub struct_wide : {n : ℕ} → StructAt 24 s (get_or places i 0) n
      → (get_or places i 0 + 12 + 4 * n + 2 * length (references_of s places i) ≤ get_or places (i + 1) 0) × (get_or places i 0 + 12 + 4 * n ≤ length s)
  struct_wide {n} g =
      let h = members_wide s 23 (omega arith) n (get_or places i 0 + 12) (get_or places (i + 1) 0 - 3) g.inside (ends ∙ g.ends) in
      let k = counted s 24 (get_or places i 0) (get_or places (i + 1) 0 - 3) (omega arith) ends in
      let same : length (collect_field_references_in_type_kind (type_at 24 s (get_or places i 0))) ≡ length (references_in_members (members_at 23 0x50 n s (get_or places i 0 + 12))) = rw g.tree in
      (omega (arith, h.0, k, same), omega (arith, h.0, h.1))
