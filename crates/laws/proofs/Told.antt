-- The numbers with which parts are refused are those of the code's refusals.
use native.Mathlib.Omega.{arith}
use mathlib.Core.Path.{refl}
use Rattle.meaning.specs.ReadExpr.{read_expr}
use Rattle.meaning.specs.ReadType.{read_ty}
use Rattle.refusals.proofs.Faults.{Among}
use Rattle.refusals.proofs.Faults as faults
use Rattle.laws.specs.Parts.{OfAPart, PartsTold}

among : Among OfAPart
among = record {
  short = (omega arith, omega arith, refl);
  stranger = (omega arith, omega arith, refl);
  off = (omega arith, omega arith, refl);
  buried = (omega arith, omega arith, refl);
}

pub told : PartsTold
told s at =
    let expr = faults.expr_only OfAPart among s in
    let type = faults.type_only OfAPart among s in
    record {
      kind = λ k. faults.kind_only OfAPart among s k at;
      body = λ w. faults.body_only OfAPart among s w at;
      expr = λ d. expr d at;
      head = faults.head_only OfAPart among s 2 at;
      array_head = faults.array_head_only OfAPart among s at;
      member_head = λ k. faults.member_head_only OfAPart among s k at;
      member = λ d k. faults.member_only OfAPart among s (read_expr d) (read_ty d) (expr d) (type d) k at;
      members = λ d k n. faults.members_only OfAPart among s (read_expr d) (read_ty d) (expr d) (type d) k n at;
      group = λ d k. faults.group_only OfAPart among s (read_expr d) (read_ty d) (expr d) (type d) k at;
      enum = λ d. faults.enum_only OfAPart among s (read_expr d) (read_ty d) (expr d) (type d) at;
      array = λ d. faults.array_only OfAPart among s (read_expr d) (read_ty d) (expr d) (type d) at;
      type = λ d. type d at;
      opening = λ k. faults.opening_only OfAPart among s k at;
      definition = faults.definition_only OfAPart among s at;
      definitions = λ n. faults.definitions_only OfAPart among s n at;
      header = faults.header_only OfAPart among s (omega arith, omega arith, refl) at;
      edge = faults.edge_only OfAPart among s at;
      edges = λ n. faults.edges_only OfAPart among s n at;
      edges_to_the_end = λ n. faults.edges_end_only OfAPart among s (omega arith, omega arith, refl) n at;
    }
