-- One field more is noted.
--     noted_more     one field more, once its name is entered and its index is written
--     noted_old, -new   the same for a name that fields before have, and for a new one
use Prim.Native.Nat.{ℕ, ◌+◌, ◌*◌, ◌≤◌, ◌<◌}
use mathlib.Core.Path.{◌≡◌, refl, sym, ap, subst, ◌∙◌}
use mathlib.Core.Logic.{by_cases, ◌≢◌}
use mathlib.Core.List.{List}
use native.Mathlib.Omega.{arith}
use native.Mathlib.Decide.{ℕ_discrete, dec_lt}
use borrow.Author.Tests.{eq-eqb, ne_eqb}
use lib.ListN.{length, length-set, get_or, set}
use lib.Seq.{get_or-set_same, get_or-set_other}
use Rattle.meaning.specs.Tree.{Member}
use Rattle.table.specs.Table.{grown, Within}
use Rattle.tree.specs.Tree.{number_at, Tree, Entered}
use Rattle.tree.specs.Facts.{same_place}
use Rattle.tree.proofs.Growing.{tree_same}
use Rattle.field_index.specs.Noted.{field_name, tree_at, IsFirst, IsLast, HasName, NotedTo}

-- the places of a tree of n numbers hold the same
abbrev pub SameTree : List ℕ → List ℕ → ℕ → ℕ → Type 0
SameTree t u a n = (i : ℕ) → a ≤ i → i < a + 3 * n → get_or u i 0 ≡ get_or t i 0

-- u is t with k written as the last index of name r, and as the first where r is a new name
pub record Written (t u : List ℕ) (a n d k r : ℕ) : Type 0 where
  pub first_old : (q : ℕ) → q < d → get_or u (a + 2 + q) 0 ≡ get_or t (a + 2 + q) 0
  pub first_new : r ≡ d → get_or u (a + 2 + r) 0 ≡ k
  pub last_here : get_or u (a + 2 + n + r) 0 ≡ k
  pub last_other : (q : ℕ) → q < d → (q ≡ r → ⊥) → get_or u (a + 2 + n + q) 0 ≡ get_or t (a + 2 + n + q) 0

module _ {t v : List ℕ} (u : List ℕ) {a n d k x r : ℕ} (e : Entered t (tree_at a n) d x r v) (same : SameTree v u (tree_at a n) (grown d r)) (long : length v ≤ length u)
    (w : Written t u a n d k r) (ms : List Member) (o : NotedTo ms t a n d k) (is : field_name ms k ≡ x) where
  abbrev name : ℕ → ℕ
  name = number_at u (tree_at a n)

  tree : Tree u (tree_at a n) (grown d r)
  tree = tree_same u e.all same long

  apart : (i j : ℕ) → i < j → j < grown d r → name i ≡ name j → ⊥
  apart i j c l e = omega (arith, same_place tree i j (omega arith) l e)

  grown_old : (q : ℕ) → q < d → q < grown d r
  grown_old q l = by_cases (ℕ_discrete r d) (λ (p : r ≡ d). rw (eq-eqb r d p) (omega arith)) (λ (p : ¬ (r ≡ d)). rw (ne_eqb r d p) l)

  here_grown : r < grown d r
  here_grown =
      by_cases (ℕ_discrete r d) (λ (p : r ≡ d). rw (eq-eqb r d p) (omega arith)) (λ (p : ¬ (r ≡ d)). rw (ne_eqb r d p) (omega (arith, e.within)))

  named : name r ≡ x
  named = same (tree_at a n + 3 * r) (omega arith) (omega (arith, here_grown)) ∙ e.here

  name_old : (q : ℕ) → q < d → name q ≡ number_at t (tree_at a n) q
  name_old q l = same (tree_at a n + 3 * q) (omega arith) (omega (arith, grown_old q l)) ∙ e.old q l

  -- a name that is not the one entered is not the field's
  other : (q : ℕ) → q < grown d r → (q ≡ r → ⊥) → field_name ms k ≡ name q → ⊥
  other q l ne p =
      by_cases (dec_lt q r) (λ (c : q < r). apart q r c here_grown (sym p ∙ is ∙ sym named))
      (λ (c : ¬ (q < r)). apart r q (omega arith) l (named ∙ sym is ∙ p))

  below : (q : ℕ) → q < grown d r → (q ≡ r → ⊥) → q < d
  below q l ne =
      by_cases (ℕ_discrete r d)
      (λ (p : r ≡ d). let g : grown d r ≡ d + 1 = ap (λ c. c) (rw (eq-eqb r d p) refl) in omega (arith, g, ne_of q ne p))
      (λ (p : ¬ (r ≡ d)). let g : grown d r ≡ d = rw (ne_eqb r d p) refl in omega (arith, g))
    where
      ne_of : (q : ℕ) → (q ≡ r → ⊥) → r ≡ d → q ≢ d
      ne_of q ne p z = ne (z ∙ sym p)

  pub noted_more : NotedTo ms u a n (grown d r) (k + 1)
  noted_more = record { tree = tree; few = few; all = all; firsts = firsts; lasts = lasts }
    where
      few : grown d r ≤ k + 1
      few = by_cases (ℕ_discrete r d) (λ (p : r ≡ d). rw (eq-eqb r d p) (omega (arith, o.few))) (λ (p : ¬ (r ≡ d)). rw (ne_eqb r d p) (omega (arith, o.few)))

      all : (i : ℕ) → i < k + 1 → HasName u a n (grown d r) (field_name ms i)
      all i l =
          by_cases (dec_lt i k)
          (λ (c : i < k). let h = o.all i c in (h.0, grown_old h.0 h.1, name_old h.0 h.1 ∙ h.2))
          (λ (c : ¬ (i < k)). let z : i ≡ k = omega arith in (r, here_grown, named ∙ sym is ∙ ap (field_name ms) (sym z)))

      firsts : (q : ℕ) → q < grown d r → IsFirst ms (k + 1) (name q) (get_or u (a + 2 + q) 0)
      firsts q l =
          by_cases (dec_lt q d)
          (λ (c : q < d).
          let f = o.firsts q c in
          rw (name_old q c, w.first_old q c) (record { below = omega (arith, f.below); here = f.here; none = f.none }))
          (λ (c : ¬ (q < d)).
          by_cases (ℕ_discrete q r)
          (λ (z : q ≡ r).
          let new : r ≡ d = omega (arith, e.within) in
          rw (z, named, w.first_new new)
          (record {
            below = omega arith;
            here = is;
            none = λ i m p.
                let h = o.all i m in
                let y : number_at t (tree_at a n) h.0 ≡ x = h.2 ∙ p in
                apart h.0 r (omega (arith, h.1)) here_grown (name_old h.0 h.1 ∙ y ∙ sym named);
          }))
          (λ (z : ¬ (q ≡ r)). absurd (c (below q l z))))

      lasts : (q : ℕ) → q < grown d r → IsLast ms (k + 1) (name q) (get_or u (a + 2 + n + q) 0)
      lasts q l =
          by_cases (ℕ_discrete q r)
          (λ (z : q ≡ r).
          rw (z, named, w.last_here) (record { below = omega arith; here = is; none = λ i m c _. omega arith }))
          (λ (z : ¬ (q ≡ r)).
          let c = below q l z in
          let g = o.lasts q c in
          rw (w.last_other q c z)
          (record {
            below = omega (arith, g.below);
            here = g.here ∙ sym (name_old q c);
            none = λ i m b p.
                by_cases (dec_lt i k) (λ (y : i < k). g.none i m y (p ∙ name_old q c))
                (λ (y : ¬ (i < k)). let is-k : i ≡ k = omega arith in other q l z (ap (field_name ms) (sym is-k) ∙ p));
          }))

-- what the function says of the places before and after
abbrev pub OneMore : List ℕ → List ℕ → ℕ → ℕ → ℕ → ℕ → ℕ → ℕ → Type 0
OneMore t u a n d k x D =
    ((ms : List Member) → NotedTo ms t a n d k → field_name ms k ≡ x → NotedTo ms u a n D (k + 1)) × Within (a + 2) (a + 2 + 5 * n) t u

module _ {t v : List ℕ} {x : ℕ} (a n d r k : ℕ) (e : Entered t (tree_at a n) d x r v) (f : d < n) (room : a + 2 + 5 * n ≤ length t) where
  abbrev last : List ℕ
  last = set v (a + 2 + n + r) k

  last_long : length last ≡ length t
  last_long = length-set v (a + 2 + n + r) k ∙ e.only.size

  last_same : (i : ℕ) → (i ≡ a + 2 + n + r → ⊥) → i < tree_at a n → get_or last i 0 ≡ get_or t i 0
  last_same i ne l = get_or-set_other v (a + 2 + n + r) i k 0 ne ∙ e.only.before i l

  last_tree : SameTree v last (tree_at a n) (grown d r)
  last_tree i l m = get_or-set_other v (a + 2 + n + r) i k 0 (λ z. omega (arith, z, e.within))

  last_within : Within (a + 2) (a + 2 + 5 * n) t last
  last_within =
      record {
        size = last_long;
        before = λ i l. last_same i (λ z. omega (arith, z)) (omega arith);
        behind = λ i l. get_or-set_other v (a + 2 + n + r) i k 0 (λ z. omega (arith, z, e.within)) ∙ e.only.behind i (omega arith);
      }

  last_is : get_or last (a + 2 + n + r) 0 ≡ k
  last_is = get_or-set_same v (a + 2 + n + r) k 0 (omega (arith, e.only.size, e.within))

  pub noted_old : r < d → OneMore t last a n d k x d
  noted_old l =
      let g : grown d r ≡ d = rw (ne_eqb r d (omega arith)) refl in (
        λ ms o is. subst (λ D. NotedTo ms last a n D (k + 1)) g
            (noted_more last e last_tree (omega (arith, last_long, e.only.size))
            (record {
              first_old = λ q c. last_same (a + 2 + q) (λ z. omega (arith, z)) (omega arith);
              first_new = λ z. absurd (omega arith);
              last_here = last_is;
              last_other = λ q c ne. last_same (a + 2 + n + q) (λ z. ne (omega (arith, z))) (omega arith);
            })
            ms o is),
        last_within,
      )

  abbrev both : List ℕ
  both = set last (a + 2 + r) k

  both_other : (i : ℕ) → (i ≡ a + 2 + r → ⊥) → get_or both i 0 ≡ get_or last i 0
  both_other i ne = get_or-set_other last (a + 2 + r) i k 0 ne

  pub noted_new : d ≤ r → OneMore t both a n d k x (d + 1)
  noted_new l =
      let z : r ≡ d = omega (arith, e.within) in
      let g : grown d r ≡ d + 1 = rw (eq-eqb r d z) refl in (
        λ ms o is. subst (λ D. NotedTo ms both a n D (k + 1)) g
            (noted_more both e (λ i c m. both_other i (λ y. omega (arith, y, e.within)) ∙ last_tree i c m)
            (omega (arith, length-set last (a + 2 + r) k, last_long, e.only.size))
            (record {
              first_old = λ q c. both_other (a + 2 + q) (λ y. omega (arith, y, z)) ∙ last_same (a + 2 + q) (λ y. omega (arith, y)) (omega arith);
              first_new = λ _. get_or-set_same last (a + 2 + r) k 0 (omega (arith, last_long, e.within));
              last_here = both_other (a + 2 + n + r) (λ y. omega (arith, y)) ∙ last_is;
              last_other = λ q c ne. both_other (a + 2 + n + q) (λ y. omega (arith, y, e.within)) ∙ last_same (a + 2 + n + q) (λ y. ne (omega (arith, y))) (omega arith);
            })
            ms o is),
        record {
          size = length-set last (a + 2 + r) k ∙ last_long;
          before = λ i c. both_other i (λ y. omega (arith, y)) ∙ last_within.before i c;
          behind = λ i c. both_other i (λ y. omega (arith, y, e.within)) ∙ last_within.behind i c;
        },
      )
