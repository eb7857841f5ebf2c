-- The sizes of primitives.
use Prim.Native.Nat.{ℕ, ◌+◌, ◌-◌, ◌<◌}
use native.Mathlib.Omega.{arith}
use mathlib.Core.Path.{◌≡◌, refl}
use Rattle.std.specs.Prelude.{Ok}
use lib.Dec.{T, leb, leb→le}
use Rattle.meaning.specs.Kinds.{OfType, Primitive, form_of}
use Rattle.meaning.specs.Sizes.{get_primitive_size}
use Rattle.fixed_meaning.specs.Extent.{sized}
use Rattle.extents.specs.declared.extent.Extent.{Extent}
use Rattle.extents.specs.Meant.{extent_meant}
use Rattle.sizes.proofs.PrimitiveLaws.{primitive_kind}
use Rattle.fixed_meaning.proofs.Every.{every_at}

-- a primitive has a size
pub primitive_size : (k : ℕ) → k < 256 → form_of k ≡ OfType Primitive → 0 < get_primitive_size k
primitive_size k h p =
    let z = primitive_kind k h p in
    let t : T (leb 1 (get_primitive_size (0x30 + (k - 0x30)))) = every_at (λ i. leb 1 (get_primitive_size (0x30 + i))) 12 (k - 0x30) tt (omega (arith, z)) in
    let e : 0x30 + (k - 0x30) ≡ k = omega (arith, z) in
    leb→le 1 (get_primitive_size k) (rw e at t)

pub primitive_sized : (e : Extent) {n : ℕ} → e.size ≡ n → e.alignment ≡ n → extent_meant (Ok e) ≡ sized n n
unfolding extent_meant
primitive_sized e p q = rw (p, q) refl
