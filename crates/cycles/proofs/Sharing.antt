-- What holds of a bundle and its edges holds while they stay as they are.
use mathlib.Core.List.{List}
use Prim.Native.Nat.{ℕ}
use mathlib.Core.Path.{refl, sym, subst, ◌∙◌}
use Rattle.bundle.specs.declared.places.Opened.{Opened}
use Rattle.cycles.specs.declared.shared.Checks.{Checks}
use Rattle.cycles.specs.Shared.{Unchanged}

pub unchanged : {c : Checks} → Unchanged c c
unchanged = record { opened = refl; edges = refl; definitions = refl }

module _ {c d : Checks} (u : Unchanged c d) where
  pub still : (P : Opened → List ℕ → Type 0) → P c.opened c.edges.now → P d.opened d.edges.now
  still P h = subst (λ o. P o d.edges.now) (sym u.opened) (subst (λ e. P c.opened e.now) (sym u.edges) h)

  pub before : (P : Opened → List ℕ → Type 0) → P d.opened d.edges.now → P c.opened c.edges.now
  before P h = subst (λ o. P o c.edges.now) u.opened (subst (λ e. P d.opened e.now) u.edges h)

  pub twice : {e : Checks} → Unchanged d e → Unchanged c e
  twice v = record { opened = v.opened ∙ u.opened; edges = v.edges ∙ u.edges; definitions = v.definitions ∙ u.definitions }
