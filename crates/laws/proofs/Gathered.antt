-- The statements hold, by the laws of the meaning.
use Prim.Native.Nat.{ℕ}
use mathlib.Core.Path.{sym}
use mathlib.Core.List.{List}
use Rattle.meaning.specs.Encoding.{Bytes}
use Rattle.meaning.specs.Calls.{Accepted}
use Rattle.meaning.proofs.Acceptance.{accepted_iff}
use Rattle.meaning.proofs.Equations as equations
use Rattle.meaning.proofs.Mapped.{bundle_names_lem, bundle_mapped}
use Rattle.meaning.proofs.Equivariance.{violations_exchange, report_items_map}
use Rattle.meaning.proofs.RenumberingLaws.{renumbered_alike, exchanged_accepted, exchanged_report}
use Rattle.refusals.proofs.Encoded.{bundle_bytes_lem}
use Rattle.laws.specs.Equations.{SizeEquations, JaggedEquations}
use Rattle.laws.specs.Exchanges.{Named, Exchanges}

pub sized : SizeEquations
sized = record {
  inline_type_ref = equations.inline_type_ref;
  inline_struct = equations.inline_struct;
  inline_union = equations.inline_union;
  inline_enum = equations.inline_enum;
  inline_array = equations.inline_array;
  named_type_ref = equations.named_type_ref;
  named_struct = equations.named_struct;
  named_union = equations.named_union;
  named_enum = equations.named_enum;
  named_array = equations.named_array;
  primitives = equations.size_primitive;
  size_unions = equations.size_size_union;
}

pub nested : JaggedEquations
nested = record {
  primitives = equations.jagged_primitive;
  type_refs = equations.jagged_type_ref;
  structs = equations.jagged_struct;
  unions = equations.jagged_union;
  enums = equations.jagged_enum;
  arrays = equations.jagged_array_lem;
  size_unions = equations.jagged_size_union;
}

pub in_the_tree : Named
in_the_tree = record {
  standing = bundle_names_lem;
  mapped = λ f b. sym (bundle_mapped f b);
  reported = λ f vs. sym (report_items_map f vs);
}

accepted_bytes : {s : List ℕ} → Accepted s → Bytes s
accepted_bytes a = bundle_bytes_lem (record { layout = a.encoded; limits = a.within })

pub exchanged : Exchanges
exchanged = record {
  accepted = accepted_iff;
  found = λ b ok f. violations_exchange f b ok;
  taken = λ s a f. exchanged_accepted (accepted_bytes a) a f;
  reported = λ s a f. exchanged_report (accepted_bytes a) a f;
  alike = λ s t a b. renumbered_alike (accepted_bytes a) (accepted_bytes b) a b;
}
