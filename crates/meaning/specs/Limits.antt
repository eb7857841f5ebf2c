-- The limits of the format (document 01, "Bundle records").
use Rattle.std.specs.Prelude.{ℕ}

-- bytes of a bundle
abbrev pub size_limit : ℕ
size_limit = 32768

-- definitions of a bundle
abbrev pub definition_limit : ℕ
definition_limit = 256

-- edges of a bundle
abbrev pub edge_limit : ℕ
edge_limit = 1024

-- levels of types and expressions: a definition's type is at level 1
abbrev pub depth_limit : ℕ
depth_limit = 24
