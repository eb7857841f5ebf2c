-- The walk for circles: what is known after each part of it.
use Prim.Native.Nat.{ℕ, zero, suc, ◌+◌, ◌≤◌, ◌<◌}
use native.Mathlib.Decide.{ℕ_discrete}
use native.Mathlib.Nat.{le_of_suc-le-suc}
use native.Mathlib.Omega.{arith}
use mathlib.Core.Bool.{Bool, true, false}
use mathlib.Core.Logic.{⊎_elim}
use mathlib.Core.Path.{◌≡◌, refl, sym, ◌∙◌}
use mathlib.Core.List.Memᴰ
use mathlib.Core.List.{List, [], ◌∷◌, ◌++◌, Memᴰ}
use lib.ListN.{length, set, replicate, length-set, length-replicate}
use lib.Seq.{get_or-set_same, get_or-set_other}
use Rattle.meaning.specs.Tree.{Bundle}
use Rattle.meaning.specs.Lookup.{count}
use Rattle.meaning.specs.Circle.{leads_to, Leads, direct, onward, circles}
use Rattle.meaning.proofs.Circle.{circles_iff, leads_from}
use Rattle.acceptance.specs.declared.Mark.{Mark}
use Rattle.acceptance.specs.declared.Mark.TheVariants.{Unseen, OnWay, Walked}
use Rattle.acceptance.specs.Circles.{Ends, ends, unwalked, mark_at, Marks, Followed, Decided, fine, loops}

-- Where definitions lead.

module _ {b : Bundle} where
  -- one step more
  leads_on : {i j k : ℕ} → Leads b i j → Memᴰ k (leads_to b j) → Leads b i k
  leads_on (direct m) l = onward m (direct l)
  leads_on (onward m w) l = onward m (leads_on w l)

  -- where every sequence of steps ends, none comes back
  no_return : {i : ℕ} → Ends b i → Leads b i i → ⊥
  no_return (ends f) (direct m) = no_return (f _ m) (direct m)
  no_return (ends f) (onward m w) = no_return (f _ m) (leads_on w m)

  pub loop_circles : {i : ℕ} → Leads b i i → true ≡ circles b
  loop_circles {i} w = sym ((circles_iff b).1 (i, w))

  pub all_end : ((i : ℕ) → i < count b → Ends b i) → false ≡ circles b
  all_end h = go (circles b) refl
    where
      go : (t : Bool) → circles b ≡ t → false ≡ t
      go true e = let r = (circles_iff b).0 e in absurd (no_return (h r.0 (leads_from b r.1)) r.1)
      go false e = refl

-- How many definitions are not walked and not on the way.

unwalked_set : (ms : List Mark) (i : ℕ) (v : Mark) → (v ≡ Unseen → ⊥) → unwalked (set ms i v) ≤ unwalked ms
unfolding unwalked
unwalked_set [] i v h = omega arith
unwalked_set (m ∷ ms) zero Unseen h = absurd (h refl)
unwalked_set (Unseen ∷ ms) zero OnWay h = omega arith
unwalked_set (Unseen ∷ ms) zero Walked h = omega arith
unwalked_set (OnWay ∷ ms) zero OnWay h = omega arith
unwalked_set (OnWay ∷ ms) zero Walked h = omega arith
unwalked_set (Walked ∷ ms) zero OnWay h = omega arith
unwalked_set (Walked ∷ ms) zero Walked h = omega arith
unwalked_set (Unseen ∷ ms) (suc i) v h = omega (arith, unwalked_set ms i v h)
unwalked_set (OnWay ∷ ms) (suc i) v h = unwalked_set ms i v h
unwalked_set (Walked ∷ ms) (suc i) v h = unwalked_set ms i v h

pub unwalked_less : (ms : List Mark) (i : ℕ) → i < length ms → mark_at ms i ≡ Unseen → unwalked (set ms i OnWay) < unwalked ms
unfolding unwalked
unwalked_less [] i h e = absurd (omega arith)
unwalked_less (Unseen ∷ ms) zero h e = omega arith
unwalked_less (OnWay ∷ ms) zero h e = absurd (let z : ◌≡◌ {A = ℕ} 0 1 = cc in omega arith)
unwalked_less (Walked ∷ ms) zero h e = absurd (let z : ◌≡◌ {A = ℕ} 0 1 = cc in omega arith)
unwalked_less (Unseen ∷ ms) (suc i) h e = omega (arith, unwalked_less ms i (le_of_suc-le-suc h) e)
unwalked_less (OnWay ∷ ms) (suc i) h e = unwalked_less ms i (le_of_suc-le-suc h) e
unwalked_less (Walked ∷ ms) (suc i) h e = unwalked_less ms i (le_of_suc-le-suc h) e

-- The parts of a walk.

module _ {b : Bundle} where
  pub followed_none : {ds : List ℕ} {marks : List Mark} → Marks b ds marks → Followed b [] marks marks
  followed_none g = record { end = λ d m. absurd (Memᴰ.not-nil m); size = g.size; walked = g.walked; way = λ i e. e; left = omega arith }

  pub followed_both : {xs ys : List ℕ} {m₀ m₁ m₂ : List Mark} → Followed b xs m₀ m₁ → Followed b ys m₁ m₂ → Followed b (xs ++ ys) m₀ m₂
  followed_both {xs} {ys} f g =
      record {
        end = λ d m. ⊎_elim (f.end d) (g.end d) (Memᴰ.append_cases xs m);
        size = g.size;
        walked = g.walked;
        way = λ i e. f.way i (g.way i e);
        left = omega (arith, f.left, g.left);
      }

  pub marks_left : (xs ys : List ℕ) {marks : List Mark} → Marks b (xs ++ ys) marks → Marks b xs marks
  marks_left xs ys g = record { size = g.size; walked = g.walked; way = λ i d e m. g.way i d e (Memᴰ.append_left ys m) }

  pub marks_right : (xs ys : List ℕ) {before after : List Mark} → Marks b (xs ++ ys) before → Followed b xs before after → Marks b ys after
  marks_right xs ys g f = record { size = f.size; walked = f.walked; way = λ i d e m. g.way i d (f.way i e) (Memᴰ.append_right xs m) }

  -- definition i, by its mark
  module _ {i : ℕ} {marks : List Mark} (g : Marks b (i ∷ []) marks) where
    pub one_walked : mark_at marks i ≡ Walked → Decided b (i ∷ []) marks marks true
    one_walked h =
        fine (record { end = λ d m. rw (Memᴰ.eq_of_singleton m) (g.walked i h); size = g.size; walked = g.walked; way = λ j e. e; left = omega arith })

    pub one_way : mark_at marks i ≡ OnWay → Decided b (i ∷ []) marks marks false
    one_way e = loops (g.way i i e (Memᴰ.head refl))

    module _ (h : i < 256) where
      -- a mark that is 1 now
      set_way : (j : ℕ) → mark_at (set marks i OnWay) j ≡ OnWay → (j ≡ i → ⊥) → mark_at marks j ≡ OnWay
      set_way j e n = sym (get_or-set_other marks i j OnWay Unseen n) ∙ e

      pub marks_inside : Marks b (leads_to b i) (set marks i OnWay)
      marks_inside = record { size = length-set marks i OnWay ∙ g.size; walked = λ j. done j (ℕ_discrete j i); way = λ j d. way j d (ℕ_discrete j i) }
        where
          done : (j : ℕ) → Dec (j ≡ i) → mark_at (set marks i OnWay) j ≡ Walked → Ends b j
          done j (yes e) l = let q = rw (e, get_or-set_same marks i OnWay Unseen (omega (arith, g.size))) at l in let z : ◌≡◌ {A = ℕ} 0 1 = cc in absurd (omega arith)
          done j (no n) l = g.walked j (rw (get_or-set_other marks i j OnWay Unseen n) at l)

          way : (j d : ℕ) → Dec (j ≡ i) → mark_at (set marks i OnWay) j ≡ OnWay → Memᴰ d (leads_to b i) → Leads b j d
          way j d (yes e) q m = rw e (direct m)
          way j d (no n) q m = leads_on (g.way j i (set_way j q n) (Memᴰ.head refl)) m

      pub one_more : {after : List Mark} → Followed b (leads_to b i) (set marks i OnWay) after → Decided b (i ∷ []) marks (set after i Walked) true
      one_more {after} f =
          fine (record {
            end = λ d m. rw (Memᴰ.eq_of_singleton m) itself;
            size = length-set after i Walked ∙ f.size;
            walked = λ j. done j (ℕ_discrete j i);
            way = λ j. way j (ℕ_discrete j i);
            left = omega (arith, unwalked_set after i Walked (λ e. let z : ◌≡◌ {A = ℕ} 0 1 = cc in omega arith), f.left, unwalked_set marks i OnWay (λ e. let z : ◌≡◌ {A = ℕ} 0 1 = cc in omega arith));
          })
        where
          itself : Ends b i
          itself = ends f.end

          done : (j : ℕ) → Dec (j ≡ i) → mark_at (set after i Walked) j ≡ Walked → Ends b j
          done j (yes e) l = rw e itself
          done j (no n) l = f.walked j (rw (get_or-set_other after i j Walked Unseen n) at l)

          way : (j : ℕ) → Dec (j ≡ i) → mark_at (set after i Walked) j ≡ OnWay → mark_at marks j ≡ OnWay
          way j (yes e) q = let p : Walked ≡ OnWay = rw (e, get_or-set_same after i Walked Unseen (omega (arith, f.size))) at q in let z : ◌≡◌ {A = ℕ} 0 1 = cc in absurd (omega arith)
          way j (no n) q = set_way j (f.way j (sym (get_or-set_other after i j Walked Unseen n) ∙ q)) n

  -- What an answer says.

  module _ {ds : List ℕ} {before after : List Mark} where
    pub decided_true : {r : Bool} → Decided b ds before after r → r ≡ true → Followed b ds before after
    decided_true (fine f) p = f
    decided_true (loops w) p = let z : ◌≡◌ {A = ℕ} 0 1 = cc in absurd (omega arith)

    pub decided_loop : {r : Bool} → Decided b ds before after r → r ≡ false → (i : ℕ) × Leads b i i
    decided_loop (fine f) p = let z : ◌≡◌ {A = ℕ} 0 1 = cc in absurd (omega arith)
    decided_loop (loops {i} w) p = (i, w)

fresh : (n j : ℕ) → mark_at (replicate n Unseen) j ≡ Unseen
fresh zero j = refl
fresh (suc n) zero = refl
fresh (suc n) (suc j) = fresh n j

-- the first i definitions are walked, and nothing is on the way
pub record Settled (b : Bundle) (marks : List Mark) (i : ℕ) : Type 0 where
  pub size : length marks ≡ 256
  pub walked : (j : ℕ) → mark_at marks j ≡ Walked → Ends b j
  pub clear : (j : ℕ) → mark_at marks j ≡ OnWay → ⊥
  pub end : (j : ℕ) → j < i → Ends b j

pub settled_start : (b : Bundle) → Settled b (replicate 256 Unseen) 0
settled_start b =
    record {
      size = length-replicate {A = Mark} 256 Unseen;
      walked = λ j h. let q = sym (fresh 256 j) ∙ h in let z : ◌≡◌ {A = ℕ} 0 1 = cc in absurd (omega arith);
      clear = λ j e. let q = sym (fresh 256 j) ∙ e in let z : ◌≡◌ {A = ℕ} 0 1 = cc in omega arith;
      end = λ j h. absurd (omega arith);
    }

module _ {b : Bundle} {marks : List Mark} {i : ℕ} (g : Settled b marks i) where
  pub settled_marks : Marks b (i ∷ []) marks
  settled_marks = record { size = g.size; walked = g.walked; way = λ j d e m. absurd (g.clear j e) }

  pub settled_next : {after : List Mark} → Followed b (i ∷ []) marks after → Settled b after (i + 1)
  settled_next f = record { size = f.size; walked = f.walked; clear = λ j e. g.clear j (f.way j e); end = λ j h. last j (ℕ_discrete j i) h }
    where
      last : (j : ℕ) → Dec (j ≡ i) → j < i + 1 → Ends b j
      last j (yes e) h = f.end j (Memᴰ.head e)
      last j (no n) h = g.end j (omega arith)

  pub settled_end : count b ≤ i → false ≡ circles b
  settled_end h = all_end (λ j l. g.end j (omega arith))
