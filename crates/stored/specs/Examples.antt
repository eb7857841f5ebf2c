-- Stored answers, computed.
use Rattle.std.specs.Prelude.{[], ◌∷◌, ◌≡◌, pos, negsuc}
use Rattle.stored.specs.Stored.{number_bytes, layout_bytes, chain_bytes, bits_of}

pub record Examples : Type 0 where
  -- 0x01020304 in four bytes
  pub low_first : number_bytes 4 0x01020304 ≡ 4 ∷ 3 ∷ 2 ∷ 1 ∷ []
  -- 300, -1 and the least value of 64 bits
  pub positive : number_bytes 8 (bits_of (pos 300)) ≡ 44 ∷ 1 ∷ 0 ∷ 0 ∷ 0 ∷ 0 ∷ 0 ∷ 0 ∷ []
  pub minus_one : number_bytes 8 (bits_of (negsuc 0)) ≡ 255 ∷ 255 ∷ 255 ∷ 255 ∷ 255 ∷ 255 ∷ 255 ∷ 255 ∷ []
  pub least : number_bytes 8 (bits_of (negsuc 0x7FFFFFFFFFFFFFFF)) ≡ 0 ∷ 0 ∷ 0 ∷ 0 ∷ 0 ∷ 0 ∷ 0 ∷ 128 ∷ []
  -- size 12, alignment 4, offsets 0 and 258
  pub layout : layout_bytes 12 4 (0 ∷ 258 ∷ [])
      ≡ 12 ∷ 0 ∷ 0 ∷ 0 ∷ 0 ∷ 0 ∷ 0 ∷ 0 ∷ 4 ∷ 0 ∷ 0 ∷ 0 ∷ 0 ∷ 0 ∷ 0 ∷ 0 ∷ 0 ∷ 0 ∷ 0 ∷ 0 ∷ 2 ∷ 1 ∷ 0 ∷ 0 ∷ []
  -- two names followed, on the chain from 7 over 258 to 9
  pub chain : chain_bytes 2 (7 ∷ 258 ∷ 9 ∷ []) ≡ 2 ∷ 0 ∷ 0 ∷ 0 ∷ 0 ∷ 0 ∷ 0 ∷ 0 ∷ 7 ∷ 0 ∷ 2 ∷ 1 ∷ 9 ∷ 0 ∷ []
