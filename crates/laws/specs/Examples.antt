-- Examples of reading, writing and renumbering that the document's table of marked ones does not have.
use Rattle.std.specs.Prelude.{ℕ, List, [], ◌∷◌, ◌++◌, true, ◌≡◌, replicate}
use Rattle.names.specs.Records.{renumber_bytes}
use Rattle.meaning.specs.Limits.{depth_limit}
use Rattle.meaning.specs.Kinds.{body}
use Rattle.meaning.specs.Reader.{Read, ok, refused}
use Rattle.meaning.specs.ReadExpr.{read_expr}
use Rattle.meaning.specs.ReadType.{head}
use Rattle.meaning.specs.Encoding.{bundle_bytes}
use Rattle.meaning.specs.Tree.{type_ref}
use Rattle.meaning.specs.Circle.{circles}
use Rattle.meaning.specs.Small.{one, sample, sample_tree}

-- an expression of n complements over a literal 3 of type U8
abbrev tower : ℕ → List ℕ
tower n = replicate n 0x24 ++ 0x04 ∷ 3 ∷ []

-- where a reading ended, or the fault
abbrev pub seen : {A : Type 0} → Read A → ℕ × ℕ
seen (ok a at) = (0, at)
seen (refused k) = (1, k)

pub record Examples : Type 0 where
  -- definition 1 as TypeRef 1 leads to itself
  pub circle_self : circles (one (type_ref 1)) ≡ true
  -- the document's bundle is the encoding of its tree
  pub sample_written : bundle_bytes sample_tree ≡ sample
  -- 24 levels are taken, and a 25th is fault 6
  pub deep_enough : seen (read_expr depth_limit (tower 23) 0) ≡ (0, 25)
  pub too_deep : seen (read_expr depth_limit (tower 24) 0) ≡ (1, 6)
  -- a kind that may not stand there is fault 3, before its missing body
  pub stranger : seen (read_expr depth_limit (0x40 ∷ []) 0) ≡ (1, 3)
  -- the whole body is due before packed is looked at
  pub short_before_scale : seen (head 2 (2 ∷ 0 ∷ []) 0) ≡ (1, 2)
  pub off_scale : seen (head 2 (2 ∷ replicate 10 0) 0) ≡ (1, 4)
  -- definition 9 is a TypeRef to 0x0207, and an edge leads from 0x0207 to 9
  pub renumbered : renumber_bytes body (0x60 ∷ 1 ∷ 0 ∷ 1 ∷ 0 ∷ 0 ∷ 0 ∷ 0x61 ∷ 9 ∷ 0 ∷ 0x40 ∷ 0x07 ∷ 0x02 ∷ 0x62 ∷ 0x07 ∷ 0x02 ∷ 9 ∷ 0 ∷ 3 ∷ [])
      ≡ 0x60 ∷ 1 ∷ 0 ∷ 1 ∷ 0 ∷ 0 ∷ 0 ∷ 0x61 ∷ 1 ∷ 0 ∷ 0x40 ∷ 2 ∷ 0 ∷ 0x62 ∷ 2 ∷ 0 ∷ 1 ∷ 0 ∷ 3 ∷ []
