-- The layout rule in the form in which the code returns it.
use Prim.Native.Nat.{ℕ, ◌+◌, ◌*◌, ◌≤◌, ◌<◌, min, max}
use native.Mathlib.Nat.{min_comm}
use native.Mathlib.Omega.{arith}
use mathlib.Core.Bool.{Bool, true, false, cond, true≢false}
use mathlib.Core.Path.{◌≡◌, refl, sym, ap, ◌∙◌}
use lib.Dec.{eqb}
use borrow.Author.Tests.{le-leb, lt-leb}
use Rattle.std.specs.Prelude.{Result, Ok, Err, is_ok}
use Rattle.meaning.specs.Tree.{Attributes}
use Rattle.fixed_meaning.specs.Extent as meaning
use Rattle.fixed_meaning.specs.Extent.{sized, unsized, largest, bounded, round_up, offset_of, with_field, with_member, varying, is_alignment, alignment_of, rounded, closed, repeated}
use Rattle.fixed_meaning.specs.Fixed.{field_offset}
use Rattle.refusal.specs.Numbers.{number}
use Rattle.extents.specs.declared.extent.Extent.{Extent}
use Rattle.extents.specs.declared.extent.Members.{Members}
use Rattle.extents.specs.declared.Packing.TheVariants.{Natural, Packed}
use Rattle.extents.specs.declared.Unsized.{Unsized}
use Rattle.extents.specs.declared.Unsized.TheVariants.{Circle, WrongAlignment, Varies, TooLarge}
use Rattle.extents.specs.Meant.{reason, extent_by, members_by, extent_meant, members_meant, mark, packing_of, least_of, Both, varied, attributes}

-- the least of two refusals is that of the least number
least_number : (j k : Unsized) → number (reason (least_of j k)) ≡ min (number (reason j)) (number (reason k))
least_number Circle Circle = refl
least_number Circle WrongAlignment = refl
least_number Circle Varies = refl
least_number Circle TooLarge = refl
least_number WrongAlignment Circle = refl
least_number WrongAlignment WrongAlignment = refl
least_number WrongAlignment Varies = refl
least_number WrongAlignment TooLarge = refl
least_number Varies Circle = refl
least_number Varies WrongAlignment = refl
least_number Varies Varies = refl
least_number Varies TooLarge = refl
least_number TooLarge Circle = refl
least_number TooLarge WrongAlignment = refl
least_number TooLarge Varies = refl
least_number TooLarge TooLarge = refl

-- a part that varies
pub varies : (e : Result Extent Unsized) → extent_meant (Err (varied e)) ≡ varying (extent_meant e)
unfolding extent_meant varying
varies (Ok e) = refl
varies (Err k) = ap unsized (least_number k Varies ∙ min_comm _ _)

pub members_vary : (so : Result Members Unsized) → members_meant (Err (varied so)) ≡ varying (members_meant so)
unfolding members_meant varying
members_vary (Ok m) = refl
members_vary (Err k) = ap unsized (least_number k Varies ∙ min_comm _ _)

-- a number over the largest, and one that is not
over : (n : ℕ) (e : meaning.Extent) → largest < n → unsized 12 ≡ bounded n e
unfolding bounded
over n e h = rw (lt-leb n largest h)

within : (n : ℕ) (e : meaning.Extent) → n ≤ largest → e ≡ bounded n e
unfolding bounded
within n e h = rw (le-leb n largest h)

-- by the numbers of refusals: what both hold, or the refusal that is met
module _ {R : Type 0} (n : R → ℕ) where
  module _ (w : meaning.Extent → meaning.Extent → meaning.Extent)
      (right : (m a k : ℕ) → w (sized m a) (unsized k) ≡ unsized k)
      (left : (j m a : ℕ) → w (unsized j) (sized m a) ≡ unsized j)
      (least : (j k : ℕ) → w (unsized j) (unsized k) ≡ unsized (min j k)) where
    both_refused : (so : Result Members R) (part : Result Extent R) (r : Result (Members × Extent) R) (k : R) → Both n so part r → r ≡ Err k → members_by n (Err k) ≡ w (members_by n so) (extent_by n part)
    both_refused (Ok x) (Ok y) r k b e = absurd (true≢false (ap is_ok (sym b ∙ e)))
    both_refused (Ok x) (Err i) r k b e = let p = sym b ∙ e in let q : i ≡ k = cc in rw q (sym (right _ _ _))
    both_refused (Err i) (Ok y) r k b e = let p = sym b ∙ e in let q : i ≡ k = cc in rw q (sym (left _ _ _))
    both_refused (Err i) (Err j) r k b e = let q : n k ≡ min (n i) (n j) = rw e at b in ap unsized q ∙ sym (least _ _)

  pub field_refused : (packed : ℕ) (so : Result Members R) (part : Result Extent R) (r : Result (Members × Extent) R) (k : R) → Both n so part r → r ≡ Err k → members_by n (Err k) ≡ with_field packed (members_by n so) (extent_by n part)
  unfolding with_field
  field_refused packed = both_refused (with_field packed) (λ m a k. refl) (λ j m a. refl) (λ j k. refl)

  pub member_refused : (so : Result Members R) (part : Result Extent R) (r : Result (Members × Extent) R) (k : R) → Both n so part r → r ≡ Err k → members_by n (Err k) ≡ with_member (members_by n so) (extent_by n part)
  unfolding with_member
  member_refused = both_refused with_member (λ m a k. refl) (λ j m a. refl) (λ j k. refl)

  -- one field or member more
  module _ (so : Result Members R) (part : Result Extent R) (r : Result (Members × Extent) R) (a : Members) (b : Extent) (d : Both n so part r) (e : r ≡ Ok (a, b)) where
    there : (so ≡ Ok a) × (part ≡ Ok b)
    there = go so part (rw e at d)
      where
        go : (so : Result Members R) (part : Result Extent R) → Both n so part (Ok (a, b)) → (so ≡ Ok a) × (part ≡ Ok b)
        go (Ok x) (Ok y) e = let q : ◌≡◌ {A = Members × Extent} (x, y) (a, b) = cc in (ap (λ p. Ok p.0) q, ap (λ p. Ok p.1) q)
        go (Ok x) (Err k) e = absurd (true≢false (ap is_ok e))
        go (Err j) (Ok y) e = absurd (true≢false (ap is_ok e))
        go (Err j) (Err k) e = absurd e

    module _ (packed o : ℕ) (w : o ≡ offset_of packed a.end b.alignment) where
      pub field_over : largest < o → (k : R) → n k ≡ 12 → members_by n (Err k) ≡ with_field packed (members_by n so) (extent_by n part)
      unfolding with_field
      field_over h k t = rw (there.0, there.1, ← w, t) (over o _ h)

      pub field_joined : o ≤ largest → (end al : ℕ) → end ≡ o + b.size → al ≡ max a.alignment b.alignment → sized end al ≡ with_field packed (members_by n so) (extent_by n part)
      unfolding with_field
      field_joined h end al p q = rw (there.0, there.1, ← w, p, q) (within o _ h)

    pub member_joined : (end al : ℕ) → end ≡ max a.end b.size → al ≡ max a.alignment b.alignment → sized end al ≡ with_member (members_by n so) (extent_by n part)
    unfolding with_member
    member_joined end al p q = rw (there.0, there.1, p, q) refl

-- members that are all there
module _ (a : Attributes) (so : Result Members Unsized) where
  pub close_not : false ≡ is_alignment a.aligned → extent_meant (Err WrongAlignment) ≡ closed a (members_meant so)
  unfolding closed extent_meant
  close_not e = rw (← e)

  module _ (e : true ≡ is_alignment a.aligned) where
    pub close_refused : (k : Unsized) → so ≡ Err k → extent_meant (Err k) ≡ closed a (members_meant so)
    unfolding closed rounded extent_meant members_meant
    close_refused k p = rw (← e, p)

    module _ (m : Members) (p : so ≡ Ok m) (al n : ℕ) (v : al ≡ alignment_of a m.alignment) (w : n ≡ round_up m.end al) where
      pub close_over : largest < n → extent_meant (Err TooLarge) ≡ closed a (members_meant so)
      unfolding closed rounded extent_meant members_meant
      close_over h = rw (← e, p, ← v, ← w) (over n _ h)

      pub close_rounded : n ≤ largest → (x : Extent) → x.size ≡ n → x.alignment ≡ al → extent_meant (Ok x) ≡ closed a (members_meant so)
      unfolding closed rounded extent_meant members_meant
      close_rounded h x q r = rw (← e, p, ← v, ← w, q, r) (within n _ h)

-- elements
module _ (count : ℕ) (x : Extent) (n : ℕ) (w : n ≡ min (count * x.size) 18446744073709551615) where
  pub repeat_over : largest < n → extent_meant (Err TooLarge) ≡ repeated count (extent_meant (Ok x))
  unfolding extent_meant repeated
  repeat_over h = over (count * x.size) _ (omega (arith, w))

  pub repeat_within : n ≤ largest → (y : Extent) → y.size ≡ n → y.alignment ≡ x.alignment → extent_meant (Ok y) ≡ repeated count (extent_meant (Ok x))
  unfolding extent_meant repeated
  repeat_within h y p q = let e : n ≡ count * x.size = omega (arith, w) in rw (p, q, e) (within (count * x.size) _ (omega (arith, w)))

-- the offset of a part that is refused
pub offset_refused : (packed : ℕ) (so : Result Members Unsized) (k : Unsized) → 0 ≡ field_offset packed (members_meant so) (extent_meant (Err k))
unfolding extent_meant members_meant
offset_refused packed (Ok m) k = refl
offset_refused packed (Err j) k = refl

-- a packed byte and what it says
module _ (packed : ℕ) where
  says : eqb (mark (packing_of packed)) 1 ≡ eqb packed 1
  says = go (eqb packed 1)
    where
      go : (t : Bool) → eqb (mark (cond t Packed Natural)) 1 ≡ t
      go true = refl
      go false = refl

  pub with_packing : (so e : meaning.Extent) → with_field (mark (packing_of packed)) so e ≡ with_field packed so e
  unfolding with_field offset_of
  with_packing (sized n a) (sized m b) = rw says
  with_packing (sized n a) (unsized k) = refl
  with_packing (unsized j) (sized m b) = refl
  with_packing (unsized j) (unsized k) = refl

  pub offset_packing : (so e : meaning.Extent) → field_offset (mark (packing_of packed)) so e ≡ field_offset packed so e
  unfolding offset_of
  offset_packing (sized n a) (sized m b) = rw says
  offset_packing (sized n a) (unsized k) = refl
  offset_packing (unsized j) e = refl

  pub closed_packing : (aligned : ℕ) (e : meaning.Extent) → closed (attributes (mark (packing_of packed)) aligned) e ≡ closed (attributes packed aligned) e
  unfolding closed rounded alignment_of
  closed_packing aligned (sized n a) = rw says
  closed_packing aligned (unsized k) = refl
