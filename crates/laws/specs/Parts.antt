-- With which numbers the readers of parts refuse, and that the code's refusal of each is the one with that number: so `step_of`, `count_of`
-- and `counts_of`, by which the readers of the crates bundle, records and acceptance are said, keep every number apart.
use Rattle.std.specs.Prelude.{ℕ, ◌≤◌, List, [], ◌∷◌, ◌≡◌}
use Rattle.refusal.specs.Numbers.{number, refusal_of}
use Rattle.meaning.specs.Reader.{Read, many}
use Rattle.meaning.specs.ReadExpr.{body, read_expr}
use Rattle.meaning.specs.ReadType.{head, array_head, member_head, read_member, read_members, read_group, read_enum, read_array, read_ty}
use Rattle.meaning.specs.ReadBundle.{opening, read_definition, read_header, read_edge, read_edges}
use Rattle.refusals.specs.Numbers.{Only}
use Rattle.bundle.specs.View.{kind_is}

-- one of 2 to 7, and the number of the refusal by which the code says it
abbrev pub OfAPart : ℕ → Type 0
OfAPart k = (2 ≤ k) × (k ≤ 7) × (number (refusal_of k) ≡ k)

-- reading was refused with such a number, if it was
abbrev pub Told : {A : Type 0} → Read A → Type 0
Told = Only OfAPart

-- each reader of which a contract speaks, at every place of any bytes
pub record Parts (s : List ℕ) (at : ℕ) : Type 0 where
  pub kind : (k : ℕ) → Told (kind_is k s at)
  pub body : (w : ℕ) → Told (body w s at)
  pub expr : (d : ℕ) → Told (read_expr d s at)
  pub head : Told (head 2 s at)
  pub array_head : Told (array_head s at)
  pub member_head : (k : ℕ) → Told (member_head k s at)
  pub member : (d k : ℕ) → Told (read_member (read_ty d) k s at)
  pub members : (d k n : ℕ) → Told (read_members (read_ty d) k n s at)
  pub group : (d k : ℕ) → Told (read_group (read_ty d) k s at)
  pub enum : (d : ℕ) → Told (read_enum (read_expr d) (read_ty d) s at)
  pub array : (d : ℕ) → Told (read_array (read_expr d) (read_ty d) s at)
  pub type : (d : ℕ) → Told (read_ty d s at)
  pub opening : (k : ℕ) → Told (opening k s at)
  pub definition : Told (read_definition s at)
  pub definitions : (n : ℕ) → Told (many ◌∷◌ [] read_definition n s at)
  pub header : Told (read_header s at)
  pub edge : Told (read_edge s at)
  pub edges : (n : ℕ) → Told (many ◌∷◌ [] read_edge n s at)
  pub edges_to_the_end : (n : ℕ) → Told (read_edges n s at)

-- so it is everywhere
abbrev pub PartsTold : Type 0
PartsTold = (s : List ℕ) (at : ℕ) → Parts s at
