-- The functions of the meaning give what the rule says: alignments, counts, and which aligned are allowed.
use Prim.Native.Nat.{ℕ, ◌^◌, max}
use native.Mathlib.Omega.{arith}
use mathlib.Core.Bool.{Bool, true, false, cond, ◌||◌}
use mathlib.Core.Option.{Option, none, some}
use mathlib.Core.Path.{◌≡◌, refl, sym, ap, subst, ◌∙◌}
use lib.Dec.{eqb, leb}
use lib.IntN.{pos, negsuc}
use borrow.Author.Tests.{eqb-true, eqb-false, eq-eqb, ne_eqb, leb-true, leb-false}
use Rattle.meaning.specs.Lists.{any}
use Rattle.meaning.specs.Circle.{numbers_below}
use Rattle.meaning.specs.Tree.{Expr, Attributes}
use Rattle.fixed_meaning.specs.Extent.{is_alignment, alignment_of}
use Rattle.fixed_meaning.specs.Value.{Value, valued, unvalued, value_of}
use Rattle.fixed_meaning.specs.Fixed.{count_by, count_of}
use Rattle.fixed_laws.specs.Rule.{Natural, of_members, of_packed, AlignmentIs, stays, replaced, IsCount}
use Rattle.fixed_laws.specs.Statements.{NoAlignment}
use Rattle.fixed_laws.proofs.Evaluating.{value_is, has_valued}
use Rattle.fixed_laws.proofs.Aligned.{some_power, found_power, or_true}

-- The alignment of a struct or union.

module _ (a : Attributes) (most : ℕ) where
  abbrev natural : ℕ
  natural = cond (eqb a.packed 1) 1 most

  natural_is : Natural a most natural
  natural_is = go (eqb a.packed 1) refl
    where
      go : (t : Bool) → eqb a.packed 1 ≡ t → Natural a most (cond t 1 most)
      go true e = of_packed (eqb-true a.packed 1 e) refl
      go false e = of_members (eqb-false a.packed 1 e)

  one_natural : {n : ℕ} → Natural a most n → n ≡ natural
  one_natural (of_members d) = rw (ne_eqb a.packed 1 d)
  one_natural (of_packed p e) = e ∙ rw (eq-eqb a.packed 1 p)

  pub alignment_is : AlignmentIs a most (alignment_of a most)
  unfolding alignment_of
  alignment_is = go (leb a.aligned natural) refl
    where
      go : (t : Bool) → leb a.aligned natural ≡ t → AlignmentIs a most (max natural a.aligned)
      go true e =
          let l = leb-true a.aligned natural e in
          let z : natural ≡ max natural a.aligned = omega arith in
          subst (AlignmentIs a most) z (stays natural_is l)
      go false e =
          let l = leb-false a.aligned natural e in
          let z : max natural a.aligned ≡ a.aligned = omega arith in
          replaced natural_is l z

  pub one_alignment : {x : ℕ} → AlignmentIs a most x → x ≡ alignment_of a most
  unfolding alignment_of
  one_alignment (stays n l) = omega (arith, one_natural n)
  one_alignment (replaced n l e) = omega (arith, one_natural n)

-- The count of an array.

pub is_count_lem : (e : Expr) (c : ℕ) → count_of e ≡ some c → IsCount e c
unfolding count_of count_by
is_count_lem e c h = value_is e (pos c) (go (value_of e) h)
  where
    go : (v : Value) → count_by v ≡ some c → v ≡ valued (pos c)
    go (valued (pos n)) h = let z : n ≡ c = cc in ap (λ n. valued (pos n)) z
    go (valued (negsuc n)) h = let z : ◌≡◌ {A = ℕ} 0 1 = cc in absurd (omega arith)
    go (unvalued k) h = let z : ◌≡◌ {A = ℕ} 0 1 = cc in absurd (omega arith)

pub counted : {e : Expr} {c : ℕ} → IsCount e c → count_of e ≡ some c
unfolding count_of count_by
counted h = rw (has_valued h)

pub no_count_lem : (e : Expr) → count_of e ≡ none → (c : ℕ) → IsCount e c → ⊥
no_count_lem e h c i = let y : some c ≡ none = sym (counted i) ∙ h in let z : ◌≡◌ {A = ℕ} 0 1 = cc in omega arith

pub uncounted : (e : Expr) → ((c : ℕ) → IsCount e c → ⊥) → count_of e ≡ none
uncounted e h = go (count_of e) refl
  where
    go : (o : Option ℕ) → count_of e ≡ o → o ≡ none
    go none p = refl
    go (some c) p = absurd (h c (is_count_lem e c p))

-- Which aligned are allowed.

pub bad : (n : ℕ) → is_alignment n ≡ false → NoAlignment n
unfolding is_alignment
bad n h = (λ e. no (rw (eq-eqb n 0 e) at h), λ k l e. no (sym (or_true (eqb n 0) (found_power n 64 k e l)) ∙ h))
  where
    no : true ≡ false → ⊥
    no q = let z : ◌≡◌ {A = ℕ} 0 1 = cc in omega arith

pub not_good : (n : ℕ) → NoAlignment n → is_alignment n ≡ false
unfolding is_alignment
not_good n h = go (eqb n 0) refl _ refl
  where
    go : (t : Bool) → eqb n 0 ≡ t → (u : Bool) → any (λ k. eqb n (2 ^ k)) (numbers_below 64) ≡ u → (t || u) ≡ false
    go true p u q = absurd (h.0 (eqb-true n 0 p))
    go false p true q = let s = some_power n 64 q in absurd (h.1 s.0 s.1.0 s.1.1)
    go false p false q = refl
