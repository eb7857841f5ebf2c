-- Lemmas on the lists of specs/Lists.antt.
use Prim.Native.Nat.{ℕ, zero, suc, ◌+◌, ◌<◌, suc-le-suc}
use mathlib.Core.Logic.{◌⊎◌, inl, inr}
use mathlib.Core.Path.{◌≡◌, refl, sym, ap, ap₂, ◌∙◌}
use mathlib.Core.List.{List, [], ◌∷◌, ◌++◌, append_assoc, map, Memᴰ}
use mathlib.Core.Bool.{Bool, true, false, cond, ◌&&◌, ◌||◌, true≢false, false≢true}
use mathlib.Core.Option
use mathlib.Core.Option.{Option, none, some, none-ne-some}
use native.Mathlib.Omega.{arith}
use lib.ListN.{length, get_elem?, get_or, replicate}
use native.Mathlib.Decide.{ℕ_discrete}
use Rattle.meaning.proofs.Pigeonhole.{Absent}
use Rattle.meaning.specs.Lists.{enumerate, flat_map, push, filter_map, or_else, and_then, find_map, any, all, first_index, last_index, holds, only_if}

-- Tests of every element.

pub all_of : {A : Type 0} (p : A → Bool) (xs : List A) → all p xs ≡ true → (x : A) → Memᴰ x xs → p x ≡ true
all_of {A = A} p [] h x m = elim m [ ]
all_of p (y ∷ ys) h x m = go (p y) refl h m (all_of p ys)
  where
    go : (t : Bool) → p y ≡ t → (t && all p ys) ≡ true → Memᴰ x (y ∷ ys)
        → (all p ys ≡ true → (z : _) → Memᴰ z ys → p z ≡ true) → p x ≡ true
    go true e h (Memᴰ.head q) ih = rw q e
    go true e h (Memᴰ.tail m) ih = ih h x m
    go false e h m ih = absurd (false≢true h)

-- an element that fails the test
pub not_all : {A : Type 0} (p : A → Bool) (xs : List A) → all p xs ≡ false → (x : A) × Memᴰ x xs × (p x ≡ false)
not_all p [] h = absurd (true≢false h)
not_all {A} p (y ∷ ys) h = go (p y) refl h (not_all p ys)
  where
    go : (t : Bool) → p y ≡ t → (t && all p ys) ≡ false → (all p ys ≡ false → (x : A) × Memᴰ x ys × (p x ≡ false))
        → (x : A) × Memᴰ x (y ∷ ys) × (p x ≡ false)
    go false e h ih = (y, Memᴰ.head refl, e)
    go true e h ih =
        let r = ih h in
        (r.0, Memᴰ.tail r.1, r.2)

pub all_true : {A : Type 0} (p : A → Bool) (xs : List A) → ((x : A) → Memᴰ x xs → p x ≡ true) → all p xs ≡ true
all_true p [] h = refl
all_true p (x ∷ xs) h = rw (h x (Memᴰ.head refl)) (all_true p xs (λ y m. h y (Memᴰ.tail m)))

-- a number is in the list or absent
pub find : (x : ℕ) (js : List ℕ) → Memᴰ x js ⊎ Absent x js
find x [] = inr tt
find x (j ∷ js) = go (ℕ_discrete x j) (find x js)
  where
    go : Dec (x ≡ j) → Memᴰ x js ⊎ Absent x js → Memᴰ x (j ∷ js) ⊎ Absent x (j ∷ js)
    go (yes e) r = inl (Memᴰ.head e)
    go (no e) (inl m) = inl (Memᴰ.tail m)
    go (no e) (inr a) = inr (e, a)

-- Elements by their index.

pub get_elem?_below : {A : Type 0} (xs : List A) (i : ℕ) {x : A} → get_elem? xs i ≡ some x → i < length xs
get_elem?_below [] i {x} e = absurd (none-ne-some x e)
get_elem?_below (y ∷ ys) zero e = omega arith
get_elem?_below (y ∷ ys) (suc i) e = suc-le-suc (get_elem?_below ys i e)

pub get_elem?_map : {A B : Type 0} (f : A → B) (xs : List A) (i : ℕ) → get_elem? (map f xs) i ≡ Option.map f (get_elem? xs i)
get_elem?_map f [] i = refl
get_elem?_map f (x ∷ xs) zero = refl
get_elem?_map f (x ∷ xs) (suc i) = get_elem?_map f xs i

-- zeros, and 0 behind them
pub get_d_zeros : (n i : ℕ) → ◌≡◌ {A = ℕ} (get_or (replicate n 0) i 0) 0
get_d_zeros zero i = refl
get_d_zeros (suc n) zero = refl
get_d_zeros (suc n) (suc i) = get_d_zeros n i

-- Maps.

pub map_append : {A B : Type 0} (g : A → B) (xs ys : List A) → map g (xs ++ ys) ≡ map g xs ++ map g ys
map_append g [] ys = refl
map_append g (x ∷ xs) ys = ap (g x ∷◌) (map_append g xs ys)

-- What stays, and what changes element by element, where the elements are put through g and the results through h.

module _ {A A' : Type 0} (g : A → A') where
  pub any_map : (p' : A' → Bool) (p : A → Bool) → ((x : A) → p' (g x) ≡ p x) → (xs : List A) → any p' (map g xs) ≡ any p xs
  any_map p' p e [] = refl
  any_map p' p e (x ∷ xs) = ap₂ ◌||◌ (e x) (any_map p' p e xs)

  pub first_index_map : (p' : A' → Bool) (p : A → Bool) → ((x : A) → p' (g x) ≡ p x) → (xs : List A)
      → first_index p' (map g xs) ≡ first_index p xs
  first_index_map p' p e [] = refl
  first_index_map p' p e (x ∷ xs) = ap₂ (λ t o. cond t (some 0) (Option.map suc o)) (e x) (first_index_map p' p e xs)

  pub last_index_map : (p' : A' → Bool) (p : A → Bool) → ((x : A) → p' (g x) ≡ p x) → (xs : List A)
      → last_index p' (map g xs) ≡ last_index p xs
  last_index_map p' p e [] = refl
  last_index_map p' p e (x ∷ xs) = ap₂ (λ t o. or_else (Option.map suc o) (cond t (some 0) none)) (e x) (last_index_map p' p e xs)

  pub holds_map : (p' : A' → Bool) (p : A → Bool) → ((x : A) → p' (g x) ≡ p x) → (o : Option A) → holds p' (Option.map g o) ≡ holds p o
  holds_map p' p e none = refl
  holds_map p' p e (some x) = e x

  pub enumerate_map : (k : ℕ) (xs : List A) → enumerate k (map g xs) ≡ map (λ p. (p.0, g p.1)) (enumerate k xs)
  enumerate_map k [] = refl
  enumerate_map k (x ∷ xs) = ap ((k, g x) ∷◌) (enumerate_map (suc k) xs)

pub only_if_map : {B B' : Type 0} (h : B → B') (o : Option B) {t' t : Bool} {o' : Option B'} → t' ≡ t → o' ≡ Option.map h o
    → only_if t' o' ≡ Option.map h (only_if t o)
only_if_map h o {t = t} p q = ap₂ only_if p q ∙ go t
  where
    go : (t : Bool) → only_if t (Option.map h o) ≡ Option.map h (only_if t o)
    go true = refl
    go false = refl

pub or_else_map : {B B' : Type 0} (h : B → B') (o p : Option B) {o' p' : Option B'} → o' ≡ Option.map h o → p' ≡ Option.map h p
    → or_else o' p' ≡ Option.map h (or_else o p)
or_else_map {B} h o p e q = ap₂ or_else e q ∙ go o
  where
    go : (o : Option B) → or_else (Option.map h o) (Option.map h p) ≡ Option.map h (or_else o p)
    go none = refl
    go (some x) = refl

pub push_map : {B B' : Type 0} (h : B → B') (o : Option B) (xs : List B) {o' : Option B'} {xs' : List B'} → o' ≡ Option.map h o → xs' ≡ map h xs
    → push o' xs' ≡ map h (push o xs)
push_map {B} h o xs e q = ap₂ push e q ∙ go o
  where
    go : (o : Option B) → push (Option.map h o) (map h xs) ≡ map h (push o xs)
    go none = refl
    go (some x) = refl

module _ {A A' B B' : Type 0} (g : A → A') (h : B → B') where
  module _ (k' : A' → Option B') (k : A → Option B) (e : (x : A) → k' (g x) ≡ Option.map h (k x)) where
    pub and_then_map : (o : Option A) → and_then (Option.map g o) k' ≡ Option.map h (and_then o k)
    and_then_map none = refl
    and_then_map (some x) = e x

    pub filter_map_map : (xs : List A) → filter_map k' (map g xs) ≡ map h (filter_map k xs)
    filter_map_map [] = refl
    filter_map_map (x ∷ xs) = push_map h (k x) (filter_map k xs) (e x) (filter_map_map xs)

    pub find_map_map : (xs : List A) → find_map k' (map g xs) ≡ Option.map h (find_map k xs)
    find_map_map [] = refl
    find_map_map (x ∷ xs) = or_else_map h (k x) (find_map k xs) (e x) (find_map_map xs)

  pub flat_map_map : (k' : A' → List B') (k : A → List B) → ((x : A) → k' (g x) ≡ map h (k x)) → (xs : List A)
      → flat_map k' (map g xs) ≡ map h (flat_map k xs)
  flat_map_map k' k e [] = refl
  flat_map_map k' k e (x ∷ xs) = ap₂ ◌++◌ (e x) (flat_map_map k' k e xs) ∙ sym (map_append h (k x) (flat_map k xs))

-- One list after another, for loops that go through a list.

pub flat_map_append : {A B : Type 0} (k : A → List B) (xs ys : List A) → flat_map k (xs ++ ys) ≡ flat_map k xs ++ flat_map k ys
flat_map_append k [] ys = refl
flat_map_append k (x ∷ xs) ys = ap (k x ++◌) (flat_map_append k xs ys) ∙ sym (append_assoc (k x) (flat_map k xs) (flat_map k ys))

pub filter_map_append : {A B : Type 0} (k : A → Option B) (xs ys : List A) → filter_map k (xs ++ ys) ≡ filter_map k xs ++ filter_map k ys
filter_map_append k [] ys = refl
filter_map_append {B = B} k (x ∷ xs) ys = ap (push (k x)) (filter_map_append k xs ys) ∙ go (k x)
  where
    go : (o : Option B) → push o (filter_map k xs ++ filter_map k ys) ≡ push o (filter_map k xs) ++ filter_map k ys
    go none = refl
    go (some v) = refl

pub enumerate_append : {A : Type 0} (k : ℕ) (xs ys : List A) → enumerate k (xs ++ ys) ≡ enumerate k xs ++ enumerate (length xs + k) ys
enumerate_append k [] ys = ap (λ n. enumerate n ys) (omega arith)
enumerate_append k (x ∷ xs) ys =
    ap ((k, x) ∷◌) (enumerate_append (suc k) xs ys ∙ ap (λ n. enumerate (suc k) xs ++ enumerate n ys) (omega arith))
