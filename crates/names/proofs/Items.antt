-- Renumbering goes from front to back, item by item.
use mathlib.Core.Path.{◌≡◌, refl, ap, ap₂, ◌∙◌}
use mathlib.Core.List.Memᴰ
use mathlib.Core.List.{List, [], ◌∷◌, ◌++◌, append-nil}
use Prim.Native.Nat.{ℕ, ◌/◌, ◌%◌}
use Rattle.names.specs.Names.{numbering}
use Rattle.names.specs.Documents.{Item, byte, name, bytes, names, map_names, renumber_items}
use Rattle.names.proofs.Documents.{document_holds}
use Rattle.names.proofs.Tables.{numbering_kept, numbering_next}

-- Names, bytes and changed names of one document behind another.

pub names_append : (d e : List Item) → names (d ++ e) ≡ names d ++ names e
names_append [] e = refl
names_append (byte b ∷ d) e = names_append d e
names_append (name n ∷ d) e = ap (n ∷◌) (names_append d e)

pub bytes_append : (d e : List Item) → bytes (d ++ e) ≡ bytes d ++ bytes e
bytes_append [] e = refl
bytes_append (byte b ∷ d) e = ap (b ∷◌) (bytes_append d e)
bytes_append (name n ∷ d) e = ap (λ l. n % 256 ∷ n / 256 ∷ l) (bytes_append d e)

pub map_names_append : (f : ℕ → ℕ) (d e : List Item) → map_names f (d ++ e) ≡ map_names f d ++ map_names f e
map_names_append f [] e = refl
map_names_append f (byte b ∷ d) e = ap (byte b ∷◌) (map_names_append f d e)
map_names_append f (name n ∷ d) e = ap (name (f n) ∷◌) (map_names_append f d e)

-- a byte is copied
pub renumber_byte : (d : List Item) (b : ℕ) → renumber_items (d ++ byte b ∷ []) ≡ renumber_items d ++ byte b ∷ []
renumber_byte d b =
    ap (λ xs. map_names (numbering xs) (d ++ byte b ∷ [])) (names_append d (byte b ∷ []) ∙ append-nil (names d))
    ∙ map_names_append (numbering (names d)) d (byte b ∷ [])

-- a name gets its number, and those before it keep theirs
pub renumber_name : (d : List Item) (n : ℕ) → renumber_items (d ++ name n ∷ []) ≡ renumber_items d ++ name (numbering (names d) n) ∷ []
renumber_name d n =
    ap (λ xs. map_names (numbering xs) (d ++ name n ∷ [])) (names_append d (name n ∷ []))
    ∙ map_names_append (numbering (names d ++ n ∷ [])) d (name n ∷ [])
    ∙ ap₂ (λ l k. l ++ name k ∷ [])
    (document_holds.through_same (numbering (names d ++ n ∷ [])) (numbering (names d)) d (λ m h. numbering_kept (names d) (n ∷ []) m (Memᴰ.tail h)))
    (numbering_next (names d) n)
