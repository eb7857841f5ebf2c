-- What is said of a list in which a chain may be wanted.
--     wanted_is, wanted_not      it is so of the list itself; where no chain is wanted, of another of as many places
--     wanted_on                  what follows for each list follows here
--     wanted_part                the list is the part of a slice that is lent
use Prim.Native.Nat.{ℕ, ◌-◌}
use mathlib.Core.Bool.{Bool, false}
use mathlib.Core.Path.{◌≡◌, refl, sym, subst}
use mathlib.Core.List.{List}
use lib.ListN.{length, take, drop}
use Rattle.chain.proofs.Parts.{whole_part}
use Rattle.search.specs.Work.{IfWanted}

module _ {wanted : Bool} {list : List ℕ} {P : List ℕ → Type 0} where
  pub wanted_is : P list → IfWanted wanted list P
  wanted_is h = record { meant = list; size = refl; same = λ _. refl; holds = h }

  pub wanted_not : wanted ≡ false → (meant : List ℕ) → length meant ≡ length list → P meant → IfWanted wanted list P
  wanted_not e meant l h = record { meant = meant; size = l; same = λ t. absurd (cc); holds = h }

  module _ (w : IfWanted wanted list P) where
    pub wanted_on : {Q : List ℕ → Type 0} → ((l : List ℕ) → P l → Q l) → IfWanted wanted list Q
    wanted_on f = record { meant = w.meant; size = w.size; same = w.same; holds = f w.meant w.holds }

pub wanted_part : {wanted : Bool} {P : List ℕ → Type 0} (a : ℕ) (work : List ℕ) → IfWanted wanted (drop a work) P → IfWanted wanted (take (length work - a) (drop a work)) P
wanted_part {wanted} {P} a work w = subst (λ (xs : List ℕ). IfWanted wanted xs P) (sym (whole_part a work)) w
