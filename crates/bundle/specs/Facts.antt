-- The facts that structs hold have one proof at most.
use Rattle.std.specs.Prelude.{ℕ, List, ◌≡◌}
use Rattle.std.proofs.Props.{props}
use Rattle.refusal.specs.declared.Refusal.{Refusal}
use Rattle.meaning.specs.Reader.{Read, ok, refused}
use Rattle.bundle.specs.declared.Layout.{Layout}
use Rattle.bundle.specs.View.{Reads}
use Rattle.bundle.specs.Definitions.{Table}
use Rattle.bundle.specs.Opened.{LayoutOf}
use Rattle.bundle.specs.TreeSets.{Ty-set}

Reads-prop : {A : Type 0} → (r : Read A) → IsProp (Reads r)
Reads-prop (ok a at) = Prim.hlevel (props)
Reads-prop (refused k) = Prim.hlevel (props)

Refusal-set : IsSet Refusal
Refusal-set = Prim.hlevel (props)

pub Table-prop : (s : List ℕ) (n : ℕ) (places : List ℕ) → IsProp (Table s n places)
Table-prop s n places = Prim.hlevel (Reads-prop, Refusal-set, Ty-set, props)

pub LayoutOf-prop : (s : List ℕ) (l : Layout) (places : List ℕ) → IsProp (LayoutOf s l places)
LayoutOf-prop s l places = Prim.hlevel (Table-prop, Ty-set, props)
