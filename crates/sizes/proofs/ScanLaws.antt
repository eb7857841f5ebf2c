-- Going over the records of a run of bytes, one after another.
use Rattle.std.specs.Prelude.{Ok, Some}
use Rattle.std.specs.Result.{result_unwrap_or}
use Prim.Native.Nat.{ℕ, zero, suc, ◌+◌, ◌-◌, ◌*◌, ◌≤◌, ◌<◌}
use native.Mathlib.Omega.{arith}
use mathlib.Core.Bool.{Bool, true, false, cond}
use mathlib.Core.Logic.{◌⊎◌, inl, inr}
use mathlib.Core.Path.{◌≡◌, refl, sym, ap, ◌∙◌}
use mathlib.Core.List.{List, []}
use borrow.Author.Tests.{lt-ltb, le-ltb}
use Rattle.meaning.proofs.KindTable.{side}
use Rattle.meaning.specs.Kinds.{Form, OfExpr, OfType, OfMember, OfRecord, Unknown, Literal, FieldRef, Sizeof, Alignof, Binary, Unary, SizeUnion}
use Rattle.meaning.specs.Limits.{depth_limit}
use Rattle.meaning.specs.Tree.{Ty, primitive}
use Rattle.meaning.specs.Reader.{Read, ok, refused}
use Rattle.meaning.specs.ReadType.{read_ty}
use Rattle.bundle.specs.View.{step_of}
use Rattle.bundle.proofs.Heads.{ended_ok}
use Rattle.scan.specs.Scan.{record_length, is_size_union, form_at}
use Rattle.scan.proofs.Flat.{type_forward}
use Rattle.scan.proofs.ScanLaws.{some_length}
use Rattle.sizes.specs.Scan.{end_or, also, next_at, names_in, positions, references_from}

module _ (s : List ℕ) where
  -- a byte before the next record, and one at it
  before : (n m at : ℕ) → at < m → positions s (suc n) m at ≡ positions s n m (suc at)
  unfolding positions
  before n m at h = rw (lt-ltb at m h)

  there : (n m at : ℕ) → m ≤ at → positions s (suc n) m at ≡ also (names_in (form_at s at)) at (positions s n (next_at (form_at s at) s at) (suc at))
  unfolding positions
  there n m at h = rw (le-ltb at m h)

  none_left : (m at : ℕ) → positions s 0 m at ≡ []
  unfolding positions
  none_left m at = refl

  -- the bytes before the next record are passed over
  pass : (n at m : ℕ) → at ≤ m → positions s n m at ≡ positions s (n - (m - at)) m m
  pass zero at m l = let p : 0 - (m - at) ≡ 0 = omega arith in rw p (none_left m at ∙ sym (none_left m m))
  pass (suc n) at m l = go (pass n (suc at) m) (side at m)
    where
      go : (suc at ≤ m → positions s n m (suc at) ≡ positions s (n - (m - suc at)) m m) → (at < m) ⊎ (m ≤ at) → positions s (suc n) m at ≡ positions s (suc n - (m - at)) m m
      go ih (inl h) =
          let p : n - (m - suc at) ≡ suc n - (m - at) = omega arith in
          before n m at h ∙ ih h ∙ ap (λ k. positions s k m m) p
      go ih (inr h) =
          let e : at ≡ m = omega arith in
          let p : suc n ≡ suc n - (m - at) = omega arith in
          ap (positions s (suc n) m) e ∙ ap (λ k. positions s k m m) p

  -- the record at `at`, and those behind it
  pub step : (at end : ℕ) → at < end → at < next_at (form_at s at) s at
      → references_from s at end ≡ also (names_in (form_at s at)) at (references_from s (next_at (form_at s at) s at) end)
  unfolding references_from
  step at end h g =
      let m = next_at (form_at s at) s at in
      let p : end - at ≡ suc (end - suc at) = omega arith in
      let q : (end - suc at) - (m - suc at) ≡ end - m = omega arith in
      ap (λ k. positions s k at at) p
      ∙ there (end - suc at) at at (omega arith)
      ∙ ap (also (names_in (form_at s at)) at) (pass (end - suc at) (suc at) m g ∙ ap (λ k. positions s k m m) q)

  -- nothing is left
  pub nothing_left : (at end : ℕ) → end ≤ at → references_from s at end ≡ []
  unfolding references_from
  nothing_left at end h = let p : end - at ≡ 0 = omega arith in ap (λ k. positions s k at at) p ∙ none_left at at

-- where a record ends that is not passed over
pub plain_end : (s : List ℕ) (at : ℕ) (f : Form) → is_size_union f ≡ false → next_at f s at ≡ at + record_length f
unfolding next_at
plain_end s at f u = rw u

-- the end of a size-discriminated union
pub union_next : (s : List ℕ) (at m : ℕ) → Ok m ≡ step_of (read_ty depth_limit s at) → next_at (OfType SizeUnion) s at ≡ m
unfolding next_at is_size_union
union_next s at m e = rw (ended_ok (read_ty depth_limit s at) m (primitive 0) e)

pub union_or : (s : List ℕ) (at : ℕ) → result_unwrap_or (step_of (read_ty depth_limit s at)) (at + 1) ≡ next_at (OfType SizeUnion) s at
unfolding next_at is_size_union
union_or s at = go (read_ty depth_limit s at)
  where
    go : (x : Read Ty) → result_unwrap_or (step_of x) (at + 1) ≡ end_or (at + 1) x
    go (ok t m) = refl
    go (refused j) = refl

-- every record ends behind its start
pub record_forward : (s : List ℕ) (at : ℕ) → at < next_at (form_at s at) s at
unfolding next_at
record_forward s at = go (is_size_union (form_at s at)) (read_ty depth_limit s at) refl
  where
    go : (t : Bool) (x : Read Ty) → read_ty depth_limit s at ≡ x → at < cond t (end_or (at + 1) x) (at + record_length (form_at s at))
    go true (ok t m) p = type_forward s depth_limit at m (rw p)
    go true (refused k) p = omega arith
    go false x p = omega (arith, some_length (form_at s at))

-- where a field reference ends
pub names_end : (s : List ℕ) (f : Form) (at n : ℕ) → names_in f ≡ Some n → next_at f s at ≡ at + 1 + 2 * n
unfolding names_in next_at record_length is_size_union
names_end s (OfExpr (FieldRef k)) at n e = let p : k ≡ n = cc in omega arith
names_end s (OfExpr (Literal w)) at n e = let z : ◌≡◌ {A = ℕ} 0 1 = cc in absurd (omega arith)
names_end s (OfExpr Sizeof) at n e = let z : ◌≡◌ {A = ℕ} 0 1 = cc in absurd (omega arith)
names_end s (OfExpr Alignof) at n e = let z : ◌≡◌ {A = ℕ} 0 1 = cc in absurd (omega arith)
names_end s (OfExpr Binary) at n e = let z : ◌≡◌ {A = ℕ} 0 1 = cc in absurd (omega arith)
names_end s (OfExpr Unary) at n e = let z : ◌≡◌ {A = ℕ} 0 1 = cc in absurd (omega arith)
names_end s (OfType x) at n e = let z : ◌≡◌ {A = ℕ} 0 1 = cc in absurd (omega arith)
names_end s (OfMember w) at n e = let z : ◌≡◌ {A = ℕ} 0 1 = cc in absurd (omega arith)
names_end s (OfRecord x y z) at n e = let z : ◌≡◌ {A = ℕ} 0 1 = cc in absurd (omega arith)
names_end s Unknown at n e = let z : ◌≡◌ {A = ℕ} 0 1 = cc in absurd (omega arith)
