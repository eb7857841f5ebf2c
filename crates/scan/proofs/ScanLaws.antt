-- Going over the records of a run of bytes, one after another.
use Rattle.std.specs.Prelude.{◌↔◌, IsTrue, None, Some}
use Rattle.std.specs.Bool.{then_some}
use Prim.Native.Nat.{ℕ, ◌+◌, ◌≤◌, ◌<◌}
use native.Mathlib.Omega.{arith}
use mathlib.Core.Bool.{Bool, true, false, cond, ◌&&◌, not, false≢true}
use mathlib.Core.Path.{◌≡◌, refl, sym, ap, ap₂, ◌∙◌}
use mathlib.Core.List.{List, [], ◌∷◌, ◌++◌}
use lib.Dec.{eqb}
use lib.ListN.{length}
use Rattle.meaning.specs.Kinds.{Literal, FieldRef, Sizeof, Alignof, Binary, Unary}
use Rattle.meaning.specs.Kinds.{Primitive, TypeRef, Struct, Union, Enum, Array, SizeUnion}
use Rattle.meaning.specs.Kinds.{Form, OfExpr, OfType, OfMember, OfRecord, Unknown}
use Rattle.bundle.specs.declared.TypeForm.TheVariants as type
use Rattle.bundle.specs.View.{type_form_meant, IsType}
use Rattle.scan.specs.Parts.{Part, other, lead, reference, arrayed, sized, is_lead, lead_names}
use Rattle.scan.specs.Scan.{record_length, record_name, part_of, form_at, part_at, record_end, Run, Records, stops, from_stop, StopsFirst, NextStop, piece_of}

-- every record has a length
pub some_length : (f : Form) → 0 < record_length f
unfolding record_length
some_length (OfExpr (Literal w)) = omega arith
some_length (OfExpr (FieldRef n)) = omega arith
some_length (OfExpr Sizeof) = omega arith
some_length (OfExpr Alignof) = omega arith
some_length (OfExpr Binary) = omega arith
some_length (OfExpr Unary) = omega arith
some_length (OfType Primitive) = omega arith
some_length (OfType TypeRef) = omega arith
some_length (OfType Struct) = omega arith
some_length (OfType Union) = omega arith
some_length (OfType Enum) = omega arith
some_length (OfType Array) = omega arith
some_length (OfType SizeUnion) = omega arith
some_length (OfMember w) = omega arith
some_length (OfRecord x y z) = omega arith
some_length Unknown = omega arith

-- a record that leads is a TypeRef
lead_form : (s : List ℕ) (at : ℕ) (f : Form) → is_lead (part_of s at f) ≡ true → f ≡ OfType TypeRef
unfolding part_of
lead_form s at (OfExpr (Literal w)) e = absurd (false≢true e)
lead_form s at (OfExpr (FieldRef n)) e = absurd (false≢true e)
lead_form s at (OfExpr Sizeof) e = absurd (false≢true e)
lead_form s at (OfExpr Alignof) e = absurd (false≢true e)
lead_form s at (OfExpr Binary) e = absurd (false≢true e)
lead_form s at (OfExpr Unary) e = absurd (false≢true e)
lead_form s at (OfType Primitive) e = absurd (false≢true e)
lead_form s at (OfType TypeRef) e = refl
lead_form s at (OfType Struct) e = absurd (false≢true e)
lead_form s at (OfType Union) e = absurd (false≢true e)
lead_form s at (OfType Enum) e = absurd (false≢true e)
lead_form s at (OfType Array) e = absurd (false≢true e)
lead_form s at (OfType SizeUnion) e = absurd (false≢true e)
lead_form s at (OfMember w) e = absurd (false≢true e)
lead_form s at (OfRecord x y z) e = absurd (false≢true e)
lead_form s at Unknown e = absurd (false≢true e)

-- whether a record leads, by whether it is a TypeRef
pub lead_is : (s : List ℕ) (at : ℕ) (b : Bool) → IsTrue b ↔ IsType s at type.TypeRef → b ≡ is_lead (part_at s at)
unfolding part_of type_form_meant
lead_is s at true h = rw (h.0 refl)
lead_is s at false h = go (is_lead (part_at s at)) refl
  where
    go : (x : Bool) → is_lead (part_at s at) ≡ x → false ≡ x
    go true e = h.1 (lead_form s at (form_at s at) e)
    go false e = refl

module _ (s : List ℕ) where
  -- a run says one thing
  pub unique : (end at : ℕ) (ps qs : List Part) → Run s end at ps → Run s end at qs → ps ≡ qs
  unique end at [] [] a b = refl
  unique end at [] (q ∷ qs) a b = absurd (omega (arith, a, b.1, some_length (form_at s at)))
  unique end at (p ∷ ps) [] a b = absurd (omega (arith, b, a.1, some_length (form_at s at)))
  unique end at (p ∷ ps) (q ∷ qs) a b = ap₂ ◌∷◌ (a.0 ∙ sym b.0) (unique end (record_end s at) ps qs a.2 b.2)

  -- where it goes
  pub run_forward : (end at : ℕ) (ps : List Part) → Run s end at ps → at ≤ end
  run_forward end at [] a = omega (arith, a)
  run_forward end at (p ∷ ps) a = omega (arith, a.1)

  -- one run after another
  pub run_append : (m i at : ℕ) (ps qs : List Part) → Run s i at ps → Run s m i qs → Run s m at (ps ++ qs)
  run_append m i at [] qs a b = rw a b
  run_append m i at (p ∷ ps) qs a b = (a.0, omega (arith, a.1, run_forward m i qs b), run_append m i (record_end s at) ps qs a.2 b)

  -- the first record, where there is one
  pub record First (end at : ℕ) (ps : List Part) : Type 0 where
    pub rest : List Part
    pub is : ps ≡ part_at s at ∷ rest
    pub there : record_end s at ≤ end
    pub run : Run s end (record_end s at) rest

  pub first : (end at : ℕ) (ps : List Part) → Run s end at ps → at < end → First end at ps
  first end at [] a h = absurd (omega (arith, a))
  first end at (p ∷ ps) a h = record { rest = ps; is = ap (◌∷ ps) a.0; there = a.1; run = a.2 }

  -- none is left
  pub run_none : (end at : ℕ) (ps : List Part) → Run s end at ps → end ≤ at → ps ≡ []
  run_none end at [] a h = refl
  run_none end at (p ∷ ps) a h = absurd (omega (arith, a.1, some_length (form_at s at)))

  -- a record at which the walk stops that asks for nothing else leads, and has a name and nothing else
  pub record Leading (at : ℕ) : Type 0 where
    pub says : part_at s at ≡ lead (record_name s at)
    pub end : record_end s at ≡ at + 3

  pub leading : (at : ℕ) → is_lead (part_at s at) ≡ true → Leading at
  unfolding part_of record_length
  leading at e = let f = lead_form s at (form_at s at) e in record { says = rw f; end = rw f }

  pub stop_leads : (at : ℕ) → stops false false (part_at s at) ≡ true → Leading at
  unfolding stops
  stop_leads at e = leading at (go (part_at s at) e)
    where
      go : (p : Part) → stops false false p ≡ true → is_lead p ≡ true
      go other e = absurd (false≢true e)
      go (lead n) e = refl
      go reference e = absurd (false≢true e)
      go (arrayed k) e = absurd (false≢true e)
      go sized e = absurd (false≢true e)

  -- the first record, where it leads
  pub record Lead (end at : ℕ) (ps : List Part) : Type 0 where
    pub rest : List Part
    pub is : ps ≡ lead (record_name s at) ∷ rest
    pub there : at + 3 ≤ end
    pub run : Run s end (at + 3) rest

  pub first_lead : {end at : ℕ} {ps : List Part} → Run s end at ps → at < end → Leading at → Lead end at ps
  first_lead {end} {at} {ps} a h l =
      let f = first end at ps a h in
      record { rest = f.rest; is = f.is ∙ ap (◌∷ f.rest) l.says; there = omega (arith, f.there, l.end); run = rw l.end at f.run }

-- The scan for the first record at which the walk stops.
module _ (sizes jagged : Bool) where
  from_here : (p : Part) (ps : List Part) → stops sizes jagged p ≡ true → from_stop sizes jagged (p ∷ ps) ≡ p ∷ ps
  unfolding from_stop
  from_here p ps e = rw e

  from_later : (p : Part) (ps : List Part) → stops sizes jagged p ≡ false → from_stop sizes jagged (p ∷ ps) ≡ from_stop sizes jagged ps
  unfolding from_stop
  from_later p ps e = rw e

  from_none : from_stop sizes jagged [] ≡ []
  unfolding from_stop
  from_none = refl

  -- no record that leads is passed over
  either : (t : Bool) (ps qs rs : List Part) → lead_names ps ≡ lead_names rs → lead_names qs ≡ lead_names rs → lead_names (cond t ps qs) ≡ lead_names rs
  either true ps qs rs e f = e
  either false ps qs rs e f = f

  pub from_names : (ps : List Part) → lead_names (from_stop sizes jagged ps) ≡ lead_names ps
  unfolding from_stop stops
  from_names [] = refl
  from_names (other ∷ ps) = from_names ps
  from_names (lead n ∷ ps) = refl
  from_names (reference ∷ ps) = either sizes (reference ∷ ps) (from_stop sizes jagged ps) ps refl (from_names ps)
  from_names (arrayed k ∷ ps) = either (jagged && eqb k 1) (arrayed k ∷ ps) (from_stop sizes jagged ps) ps refl (from_names ps)
  from_names (sized ∷ ps) = either sizes (sized ∷ ps) (from_stop sizes jagged ps) ps refl (from_names ps)

  -- no record before `next` stops the walk
  pub record Passing (s : List ℕ) (at end next : ℕ) : Type 0 where
    pub forward : at ≤ next
    pub bound : end ≤ length s
    pub parts : List Part
    pub run : Run s end next parts
    pub same : (ps : List Part) → Run s end at ps → from_stop sizes jagged ps ≡ from_stop sizes jagged parts

  pub passing_start : {s : List ℕ} {at end : ℕ} → Records s at end → Passing s at end at
  passing_start {s} {at} {end} r = record {
    forward = omega arith;
    bound = r.bound;
    parts = r.parts;
    run = r.run;
    same = λ ps a. ap (from_stop sizes jagged) (unique s end at ps r.parts a r.run);
  }

  module _ {s : List ℕ} {at end next : ℕ} (g : Passing s at end next) where
    -- behind the last record
    pub passing_end : end ≤ next → NextStop s at end sizes jagged None
    passing_end h ps r = g.same ps r ∙ ap (from_stop sizes jagged) (run_none s end next g.parts g.run h) ∙ from_none

    module _ (h : next < end) {f : Form} (e : f ≡ form_at s next) where
      here : First s end next g.parts
      here = first s end next g.parts g.run h

      -- the record lies within the bytes
      pub passing_there : next + record_length f ≤ length s
      passing_there = rw e (omega (arith, here.there, g.bound))

      -- it stops the walk
      pub passing_stop : None ≡ piece_of sizes jagged (part_of s next f) (record_length f) → StopsFirst s at end sizes jagged next
      passing_stop q =
          let k : stops sizes jagged (part_at s next) ≡ true = go (stops sizes jagged (part_at s next)) (rw e at q) in
          record {
            forward = g.forward;
            before = h;
            rest = λ ps r. rw (g.same ps r, here.is, from_here (part_at s next) here.rest k) (rw here.is at g.run);
            stop = k;
          }
        where
          go : (t : Bool) → None ≡ then_some (not t) (record_length (form_at s next)) → t ≡ true
          go true q = refl
          go false q = let z : ◌≡◌ {A = ℕ} 0 1 = cc in absurd (omega arith)

      -- it does not, and has this length
      module _ {n : ℕ} (q : Some n ≡ piece_of sizes jagged (part_of s next f) (record_length f)) where
        other_length : (stops sizes jagged (part_at s next) ≡ false) × (n ≡ record_length (form_at s next))
        other_length = go (stops sizes jagged (part_at s next)) (rw e at q)
          where
            go : (t : Bool) → Some n ≡ then_some (not t) (record_length (form_at s next)) → (t ≡ false) × (n ≡ record_length (form_at s next))
            go true q = let z : ◌≡◌ {A = ℕ} 0 1 = cc in absurd (omega arith)
            go false q = (refl, cc)

        pub passing_less : (0 < n) × (next + n ≤ length s)
        passing_less = (omega (arith, other_length.1, some_length (form_at s next)), omega (arith, other_length.1, here.there, g.bound))

        pub passing_next : Passing s at end (next + n)
        passing_next = record {
          forward = omega (arith, g.forward);
          bound = g.bound;
          parts = here.rest;
          run = rw other_length.1 here.run;
          same = λ ps r. g.same ps r ∙ ap (from_stop sizes jagged) here.is ∙ from_later (part_at s next) here.rest other_length.0;
        }
