-- Lists in which no number comes twice.
--     distinct_inserts, distinct_filter      what they give is such a list
--     within_size, same_size                 one whose numbers are all in another list is no longer than that
use Prim.Native.Nat.{ℕ, zero, suc, ◌≤◌, ◌<◌, suc-le-suc}
use mathlib.Core.Path.{◌≡◌, refl, sym, ap, ◌∙◌}
use mathlib.Core.Logic.{◌⊎◌, inl, inr}
use mathlib.Core.List.Memᴰ
use mathlib.Core.List.{List, [], ◌∷◌, map, Memᴰ}
use mathlib.Core.Bool.{Bool, true, false, cond}
use native.Mathlib.Omega.{arith}
use native.Mathlib.Nat.{le_of_suc-le-suc}
use lib.Dec.{eqb}
use lib.ListN.{length, get_or}
use borrow.Author.Tests.{eqb-true, eqb-false, eq-eqb}
use Rattle.names.specs.Names.{place, insert, inserts}
use Rattle.names.proofs.Place.{Has, get_d_place}
use Rattle.meaning.proofs.Pigeonhole.{Absent, Distinct, pigeonhole}
use Rattle.followed.specs.Followed.{filter}
use Rattle.followed.specs.Laws.{Once}

-- Elements that pass a test.

pub filter_mem : {A : Type 0} (p : A → Bool) (xs : List A) (x : A) → Memᴰ x (filter p xs) → Memᴰ x xs × (p x ≡ true)
filter_mem p [] x m = absurd (Memᴰ.not-nil m)
filter_mem {A} p (y ∷ ys) x m = go (p y) refl m (filter_mem p ys x)
  where
    go : (t : Bool) → p y ≡ t → Memᴰ x (cond t (y ∷ filter p ys) (filter p ys))
        → (Memᴰ x (filter p ys) → Memᴰ x ys × (p x ≡ true)) → Memᴰ x (y ∷ ys) × (p x ≡ true)
    go true e (Memᴰ.head q) ih = (Memᴰ.head q, ap p q ∙ e)
    go true e (Memᴰ.tail l) ih = let r = ih l in (Memᴰ.tail r.0, r.1)
    go false e l ih = let r = ih l in (Memᴰ.tail r.0, r.1)

pub mem_filter : {A : Type 0} (p : A → Bool) (xs : List A) (x : A) → Memᴰ x xs → p x ≡ true → Memᴰ x (filter p xs)
mem_filter p [] x m e = absurd (Memᴰ.not-nil m)
mem_filter p (y ∷ ys) x (Memᴰ.head q) e = rw (ap p (sym q) ∙ e) (Memᴰ.head q)
mem_filter p (y ∷ ys) x (Memᴰ.tail m) e = go (p y) (mem_filter p ys x m e)
  where
    go : (t : Bool) → Memᴰ x (filter p ys) → Memᴰ x (cond t (y ∷ filter p ys) (filter p ys))
    go true l = Memᴰ.tail l
    go false l = l

pub filter_map : {A B : Type 0} (f : A → B) (p : A → Bool) (q : B → Bool) → ((x : A) → q (f x) ≡ p x) → (xs : List A)
    → filter q (map f xs) ≡ map f (filter p xs)
filter_map f p q e [] = refl
filter_map f p q e (x ∷ xs) = rw (e x, filter_map f p q e xs) (go (p x))
  where
    go : (t : Bool) → cond t (f x ∷ map f (filter p xs)) (map f (filter p xs)) ≡ map f (cond t (x ∷ filter p xs) (filter p xs))
    go true = refl
    go false = refl

-- Numbers that are absent, and lists in which no number comes twice.

absent_mem : {x : ℕ} {xs : List ℕ} → Memᴰ x xs → Absent x xs → ⊥
absent_mem (Memᴰ.head e) a = a.0 e
absent_mem (Memᴰ.tail m) a = absent_mem m a.1

pub mem_absent : (x : ℕ) (xs : List ℕ) → (Memᴰ x xs → ⊥) → Absent x xs
mem_absent x [] h = tt
mem_absent x (y ∷ ys) h = (λ e. h (Memᴰ.head e), mem_absent x ys (λ m. h (Memᴰ.tail m)))

pub distinct_filter : (p : ℕ → Bool) (xs : List ℕ) → Distinct xs → Distinct (filter p xs)
distinct_filter p [] d = tt
distinct_filter p (x ∷ xs) d = go (p x) (distinct_filter p xs d.1)
  where
    go : (t : Bool) → Distinct (filter p xs) → Distinct (cond t (x ∷ filter p xs) (filter p xs))
    go true r = (mem_absent x (filter p xs) (λ m. absent_mem (filter_mem p xs x m).0 d.0), r)
    go false r = r

-- what is in a list after n was put in
mem_insert : (ds : List ℕ) (n x : ℕ) → (x ≡ n) ⊎ Memᴰ x ds → Memᴰ x (insert ds n)
mem_insert [] n x (inl e) = Memᴰ.head e
mem_insert [] n x (inr m) = absurd (Memᴰ.not-nil m)
mem_insert (d ∷ ds) n x (inr (Memᴰ.head e)) = Memᴰ.head e
mem_insert (d ∷ ds) n x (inr (Memᴰ.tail m)) = Memᴰ.tail (go (eqb n d) (mem_insert ds n x (inr m)))
  where
    go : (t : Bool) → Memᴰ x (insert ds n) → Memᴰ x (cond t ds (insert ds n))
    go true l = m
    go false l = l
mem_insert (d ∷ ds) n x (inl e) = go (eqb n d) refl (mem_insert ds n x (inl e))
  where
    go : (t : Bool) → eqb n d ≡ t → Memᴰ x (insert ds n) → Memᴰ x (d ∷ cond t ds (insert ds n))
    go true q l = Memᴰ.head (e ∙ eqb-true n d q)
    go false q l = Memᴰ.tail l

pub mem_inserts : (ds xs : List ℕ) (x : ℕ) → Memᴰ x ds ⊎ Memᴰ x xs → Memᴰ x (inserts ds xs)
mem_inserts ds [] x (inl m) = m
mem_inserts ds [] x (inr m) = absurd (Memᴰ.not-nil m)
mem_inserts ds (y ∷ ys) x (inl m) = mem_inserts (insert ds y) ys x (inl (mem_insert ds y x (inr m)))
mem_inserts ds (y ∷ ys) x (inr (Memᴰ.head e)) = mem_inserts (insert ds y) ys x (inl (mem_insert ds y x (inl e)))
mem_inserts ds (y ∷ ys) x (inr (Memᴰ.tail m)) = mem_inserts (insert ds y) ys x (inr m)

absent_insert : (ds : List ℕ) (n x : ℕ) → (x ≡ n → ⊥) → Absent x ds → Absent x (insert ds n)
absent_insert [] n x ne a = (ne, tt)
absent_insert (d ∷ ds) n x ne a = (a.0, go (eqb n d) (absent_insert ds n x ne a.1))
  where
    go : (t : Bool) → Absent x (insert ds n) → Absent x (cond t ds (insert ds n))
    go true r = a.1
    go false r = r

distinct_insert : (ds : List ℕ) (n : ℕ) → Distinct ds → Distinct (insert ds n)
distinct_insert [] n d = (tt, tt)
distinct_insert (x ∷ xs) n d = go (eqb n x) refl (distinct_insert xs n d.1)
  where
    go : (t : Bool) → eqb n x ≡ t → Distinct (insert xs n) → Distinct (x ∷ cond t xs (insert xs n))
    go true e r = d
    go false e r = (absent_insert xs n x (λ q. eqb-false n x e (sym q)) d.0, r)

pub distinct_inserts : (ds xs : List ℕ) → Distinct ds → Distinct (inserts ds xs)
distinct_inserts ds [] d = d
distinct_inserts ds (x ∷ xs) d = distinct_inserts (insert ds x) xs (distinct_insert ds x d)

-- the lists that grow, put through a map that keeps equal and different
module _ (f : ℕ → ℕ) (keeps : (m n : ℕ) → eqb (f m) (f n) ≡ eqb m n) where
  insert_map : (ds : List ℕ) (n : ℕ) → insert (map f ds) (f n) ≡ map f (insert ds n)
  insert_map [] n = refl
  insert_map (x ∷ xs) n = rw (keeps n x, insert_map xs n) (go (eqb n x))
    where
      go : (t : Bool) → f x ∷ cond t (map f xs) (map f (insert xs n)) ≡ f x ∷ map f (cond t xs (insert xs n))
      go true = refl
      go false = refl

  pub inserts_map : (ds xs : List ℕ) → inserts (map f ds) (map f xs) ≡ map f (inserts ds xs)
  inserts_map ds [] = refl
  inserts_map ds (x ∷ xs) = ap (λ l. inserts l (map f xs)) (insert_map ds x) ∙ inserts_map (insert ds x) xs

-- Sizes.

mem_has : {x : ℕ} {xs : List ℕ} → Memᴰ x xs → Has xs x
mem_has {x} (Memᴰ.head {x = y} {xs = xs} e) = rw (eq-eqb x y e) (omega arith)
mem_has {x} (Memᴰ.tail {x = y} {xs = xs} m) = go (eqb x y) (mem_has m)
  where
    go : (t : Bool) → place xs x < length xs → cond t 0 (suc (place xs x)) < suc (length xs)
    go true l = omega arith
    go false l = suc-le-suc l

mem_get_d : (xs : List ℕ) (i : ℕ) → i < length xs → Memᴰ (get_or xs i 0) xs
mem_get_d [] i l = absurd (omega arith)
mem_get_d (x ∷ xs) zero l = Memᴰ.head refl
mem_get_d (x ∷ xs) (suc i) l = Memᴰ.tail (mem_get_d xs i (le_of_suc-le-suc l))

distinct_apart : (xs : List ℕ) → Distinct xs → (i j : ℕ) → i < j → j < length xs → get_or xs i 0 ≡ get_or xs j 0 → ⊥
distinct_apart [] d i j l h e = omega arith
distinct_apart (x ∷ xs) d i zero l h e = omega arith
distinct_apart (x ∷ xs) d zero (suc j) l h e = absent_mem (rw (sym e) at (mem_get_d xs j (le_of_suc-le-suc h))) d.0
distinct_apart (x ∷ xs) d (suc i) (suc j) l h e = distinct_apart xs d.1 i j (le_of_suc-le-suc l) (le_of_suc-le-suc h) e

pub within_size : (xs ys : List ℕ) → Distinct xs → ((x : ℕ) → Memᴰ x xs → Memᴰ x ys) → length xs ≤ length ys
within_size xs ys d inside =
    pigeonhole (length xs) (length ys) (λ i. place ys (get_or xs i 0)) (λ i l. at i l)
    (λ i j l h e. distinct_apart xs d i j l h (sym (get_d_place ys _ (at i (omega arith))) ∙ ap (λ k. get_or ys k 0) e ∙ get_d_place ys _ (at j h)))
  where
    at : (i : ℕ) → i < length xs → Has ys (get_or xs i 0)
    at i l = mem_has (inside (get_or xs i 0) (mem_get_d xs i l))

pub same_size : (xs ys : List ℕ) → Distinct xs → Distinct ys → ((x : ℕ) → Memᴰ x xs → Memᴰ x ys)
    → ((x : ℕ) → Memᴰ x ys → Memᴰ x xs) → length xs ≡ length ys
same_size xs ys d e there back = omega (arith, within_size xs ys d there, within_size ys xs e back)

-- The same said by membership.

pub once_distinct : (xs : List ℕ) → Once xs → Distinct xs
once_distinct [] o = tt
once_distinct (x ∷ xs) o = (mem_absent x xs o.0, once_distinct xs o.1)

pub distinct_once : (xs : List ℕ) → Distinct xs → Once xs
distinct_once [] d = tt
distinct_once (x ∷ xs) d = (λ m. absent_mem m d.0, distinct_once xs d.1)
