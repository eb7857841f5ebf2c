-- `circles` is true exactly where some definition leads back to itself.
--     settled_step, settled_more      one step needs one less; more is enough too
--     circles_iff                     the law
--     settled_of                      where nothing circles, every definition is settled at the count of definitions
use Prim.Native.Nat.{ℕ, zero, suc, ◌≤◌, ◌<◌}
use mathlib.Core.Path.{◌≡◌, refl, ap}
use mathlib.Core.Logic.{◌↔◌, ◌⊎◌, inl, inr}
use mathlib.Core.List.Memᴰ
use mathlib.Core.List.{List, [], ◌∷◌, Memᴰ, map}
use mathlib.Core.Bool.{Bool, true, false, not, cond, true≢false, false≢true}
use mathlib.Core.Option.{Option, none, some}
use native.Mathlib.Omega.{arith}
use native.Mathlib.Nat.{le_of_suc-le-suc}
use native.Mathlib.Decide.{ℕ_discrete}
use lib.Dec.{ltb}
use lib.ListN.{length, get_or, length-map}
use borrow.Author.Tests.{ltb-true, lt-ltb}
use Rattle.meaning.proofs.Pigeonhole.{Absent, Distinct, distinct_size}
use Rattle.meaning.proofs.Lists.{all_of, all_true, not_all, get_elem?_below, find}
use Rattle.meaning.specs.Tree.{Ty, Bundle}
use Rattle.meaning.specs.Lists.{all}
use Rattle.meaning.specs.Lookup.{count, type_at, definition_of}
use Rattle.meaning.specs.Circle.{resolve, names_in, leads_to, Leads, direct, onward, settled, numbers_below, circles}

below_mem : (k i : ℕ) → Memᴰ i (numbers_below k) → i < k
below_mem zero i x' = elim x' [ ]
below_mem (suc k) i (Memᴰ.head e) = omega arith
below_mem (suc k) i (Memᴰ.tail m) = omega (arith, below_mem k i m)

mem_below : (k i : ℕ) → i < k → Memᴰ i (numbers_below k)
mem_below zero i h = absurd (omega arith)
mem_below (suc k) i h = go (ℕ_discrete i k) (mem_below k i)
  where
    go : Dec (i ≡ k) → (i < k → Memᴰ i (numbers_below k)) → Memᴰ i (k ∷ numbers_below k)
    go (yes e) ih = Memᴰ.head e
    go (no e) ih = Memᴰ.tail (ih (omega arith))

module _ (b : Bundle) where
  -- what the names lead to are definitions
  pub resolve_below : (ns : List ℕ) (j : ℕ) → Memᴰ j (resolve b ns) → j < count b
  resolve_below [] j m = elim m [ ]
  resolve_below (n ∷ ns) j m = go (ltb (definition_of b n) (count b)) refl m (resolve_below ns j)
    where
      go : (t : Bool) → ltb (definition_of b n) (count b) ≡ t → Memᴰ j (cond t (definition_of b n ∷ resolve b ns) (resolve b ns))
          → (Memᴰ j (resolve b ns) → j < count b) → j < count b
      go true e (Memᴰ.head q) ih = rw q (ltb-true _ _ e)
      go true e (Memᴰ.tail m) ih = ih m
      go false e m ih = ih m

  pub resolve_mem : {n : ℕ} {ns : List ℕ} → Memᴰ n ns → definition_of b n < count b → Memᴰ (definition_of b n) (resolve b ns)
  resolve_mem {n = n} (Memᴰ.head {x = x} {xs = ns} e) h = rw e (rw (lt-ltb (definition_of b x) (count b) (rw e at h)) (Memᴰ.head refl))
  resolve_mem {n = n} (Memᴰ.tail {x = x} {xs = ns} m) h = go (ltb (definition_of b x) (count b)) (resolve_mem m h)
    where
      go : (t : Bool) → Memᴰ (definition_of b n) (resolve b ns)
          → Memᴰ (definition_of b n) (cond t (definition_of b x ∷ resolve b ns) (resolve b ns))
      go true r = Memᴰ.tail r
      go false r = r

  leads_to_below : (i j : ℕ) → Memᴰ j (leads_to b i) → j < count b
  unfolding leads_to
  leads_to_below i j m = resolve_below (names_in (type_at b i)) j m

  first_below : (i : ℕ) {j : ℕ} → Memᴰ j (leads_to b i) → i < count b
  unfolding leads_to
  first_below i {j} m = go (type_at b i) refl m
    where
      go : (o : Option Ty) → type_at b i ≡ o → Memᴰ j (resolve b (names_in o)) → i < count b
      go none e m = absurd (Memᴰ.not-nil m)
      go (some t) e m = rw length-map at (get_elem?_below (map (λ d. d.type) b.definitions) i e)

  -- one step needs one less
  pub settled_step : (k i j : ℕ) → settled b (suc k) i ≡ true → Memᴰ j (leads_to b i) → settled b k j ≡ true
  unfolding settled
  settled_step k i j h m = all_of (settled b k) (leads_to b i) h j m

  pub settled_zero : (i : ℕ) → settled b zero i ≡ true → ⊥
  unfolding settled
  settled_zero i h = false≢true h

  -- more is enough too
  pub settled_more : (k m i : ℕ) → k ≤ m → settled b k i ≡ true → settled b m i ≡ true
  unfolding settled
  settled_more zero m i l h = absurd (false≢true h)
  settled_more (suc k) zero i l h = absurd (omega arith)
  settled_more (suc k) (suc m) i l h =
      all_true (settled b m) (leads_to b i) (λ j e. settled_more k m j (le_of_suc-le-suc l) (all_of (settled b k) (leads_to b i) h j e))

  -- A definition that leads to itself is never settled.

  descend : {i j : ℕ} → Leads b i j → (k : ℕ) → settled b k i ≡ true → (m : ℕ) × (m < k) × (settled b m j ≡ true)
  descend l zero h = absurd (settled_zero _ h)
  descend (direct m) (suc k) h = (k, omega arith, settled_step k _ _ h m)
  descend (onward m l) (suc k) h =
      let r = descend l k (settled_step k _ _ h m) in
      (r.0, omega arith, r.2)

  no_return : (n k i : ℕ) → k ≤ n → Leads b i i → settled b k i ≡ true → ⊥
  no_return zero k i l w h = omega (arith, (descend w k h).1)
  no_return (suc n) k i l w h =
      let r = descend w k h in
      no_return n r.0 i (omega arith) w r.2

  -- A definition that is not settled at the count of definitions starts a walk of that many steps, in which some definition comes twice.

  data Walk : ℕ → List ℕ → Type 0 where
    stop : {i : ℕ} → Walk i []
    step : {i j : ℕ} {js : List ℕ} → Memᴰ j (leads_to b i) → Walk j js → Walk i (j ∷ js)

  unsettled_walk : (k i : ℕ) → settled b k i ≡ false → (js : List ℕ) × (length js ≡ k) × Walk i js
  unfolding settled
  unsettled_walk zero i h = ([], refl, stop)
  unsettled_walk (suc k) i h =
      let f = not_all (settled b k) (leads_to b i) h in
      let r = unsettled_walk k f.0 f.2 in
      (f.0 ∷ r.0, ap suc r.1, step f.1 r.2)

  reach : {i x : ℕ} {js : List ℕ} → Walk i js → Memᴰ x js → Leads b i x
  reach (stop {i = i}) x7 = elim x7 [ ]
  reach (step m w) (Memᴰ.head e) = rw e (direct m)
  reach (step m w) (Memᴰ.tail l) = onward m (reach w l)

  loop_or_distinct : {i : ℕ} {js : List ℕ} → Walk i js → ((j : ℕ) × Leads b j j) ⊎ Distinct (i ∷ js)
  loop_or_distinct stop = inr (tt, tt)
  loop_or_distinct {i} (step {j = j} {js = js} m w) = go (loop_or_distinct w) (find i (j ∷ js))
    where
      go : ((j : ℕ) × Leads b j j) ⊎ Distinct (j ∷ js) → Memᴰ i (j ∷ js) ⊎ Absent i (j ∷ js)
          → ((j : ℕ) × Leads b j j) ⊎ Distinct (i ∷ j ∷ js)
      go (inl r) f = inl r
      go (inr d) (inl e) = inl (i, reach (step m w) e)
      go (inr d) (inr a) = inr (a, d)

  walk_below : {i : ℕ} {js : List ℕ} → i < count b → Walk i js → (n : ℕ) → n < length (i ∷ js) → get_or (i ∷ js) n 0 < count b
  walk_below h w zero l = h
  walk_below h stop (suc n) l = absurd (omega arith)
  walk_below {i} h (step {j = j} m w) (suc n) l = walk_below (leads_to_below i j m) w n (le_of_suc-le-suc l)

  unsettled_loop : (i : ℕ) → i < count b → settled b (count b) i ≡ false → (j : ℕ) × Leads b j j
  unsettled_loop i l h = go (loop_or_distinct w.2)
    where
      w : (js : List ℕ) × (length js ≡ count b) × Walk i js
      w = unsettled_walk (count b) i h

      go : ((j : ℕ) × Leads b j j) ⊎ Distinct (i ∷ w.0) → (j : ℕ) × Leads b j j
      go (inl r) = r
      go (inr d) = absurd (omega (arith, distinct_size (i ∷ w.0) (count b) d (walk_below l w.2), w.1))

  -- The law, both ways.

  circles_loop : circles b ≡ true → (i : ℕ) × Leads b i i
  unfolding circles
  circles_loop h =
      let f = not_all (settled b (count b)) (numbers_below (count b)) (flip _ h) in
      unsettled_loop f.0 (below_mem (count b) f.0 f.1) f.2
    where
      flip : (t : Bool) → not t ≡ true → t ≡ false
      flip true e = absurd (false≢true e)
      flip false e = refl

  -- only a definition leads anywhere
  pub leads_from : {i j : ℕ} → Leads b i j → i < count b
  leads_from {i} (direct m) = first_below i m
  leads_from {i} (onward m l) = first_below i m

  loop_circles : (i : ℕ) → Leads b i i → circles b ≡ true
  unfolding circles
  loop_circles i w = go (all (settled b (count b)) (numbers_below (count b))) refl
    where
      go : (t : Bool) → all (settled b (count b)) (numbers_below (count b)) ≡ t → not t ≡ true
      go true e = absurd (no_return (count b) (count b) i (omega arith) w
          (all_of (settled b (count b)) (numbers_below (count b)) e i (mem_below (count b) i (leads_from w))))
      go false e = refl

  pub circles_iff : (circles b ≡ true) ↔ ((i : ℕ) × Leads b i i)
  circles_iff = (circles_loop, λ r. loop_circles r.0 r.1)

  -- where nothing circles, every definition is settled at the count of definitions
  pub settled_of : circles b ≡ false → (i : ℕ) → i < count b → settled b (count b) i ≡ true
  unfolding circles
  settled_of h i l = all_of (settled b (count b)) (numbers_below (count b)) (flip _ h) i (mem_below (count b) i l)
    where
      flip : (t : Bool) → not t ≡ false → t ≡ true
      flip true e = refl
      flip false e = absurd (true≢false e)
