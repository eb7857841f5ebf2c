-- What a search answers for the chain that it found.
--     listed, narrow       where the list holds the names, and where it does not
--     alone_listed, alone_narrow       from a name to itself
--     place_behind                     the number of a name, and the one behind the last
--     found_listed, found_narrow       after a search between numbers
use Prim.Native.Nat.{ℕ, zero, suc, ◌+◌, ◌*◌, ◌≤◌, ◌<◌}
use mathlib.Core.Path.{◌≡◌, refl, sym, ap, ◌∙◌}
use mathlib.Core.List.{List, [], ◌∷◌, ◌++◌, map}
use mathlib.Core.Option as math
use mathlib.Core.Option.{some}
use native.Mathlib.Omega.{arith}
use borrow.Author.Tests.{le-leb, lt-leb}
use lib.ListN.{length, length-map, get_or, drop, set}
use Rattle.meaning.specs.Chain.{Graph, chain_of}
use Rattle.meaning.specs.Calls.{result, answer_of, places_after}
use Rattle.meaning.specs.Due.{chain_names}
use Rattle.meaning.proofs.ChainLaws.{chain_self}
use Rattle.followed.specs.Followed.{followed_count}
use Rattle.followed.proofs.FollowedLaws.{none_followed}
use Rattle.std.specs.Prelude.{Option, unwrap_or, Ok, Err}
use Rattle.table.specs.Table.{PlaceOf, member, Only}
use Rattle.table.proofs.Buckets.{PlaceOr, place_or}
use Rattle.chain.specs.Edges.{turned}
use Rattle.chain.specs.Index.{names_in, name_in, named, Indexed}
use Rattle.search_from.specs.Queue.{leading}
use Rattle.search_from.specs.declared.Place.{Place}
use Rattle.search_from.specs.Work.{long_in, before_in, Explored}
use Rattle.search_from.specs.Listing.{answer_meant, Lists}
use Rattle.refusal.specs.declared.Refusal.TheVariants.{NoRoom}
use Rattle.search_from.proofs.Filling.{leading_length, leads_inside}
use Rattle.search_from.proofs.Naming.{count_of, chain_none_of, chain_some_of}

module _ {g : Graph} {a b : ℕ} {o : math.Option (List ℕ)} (is : chain_of g a b ≡ o) {list : List ℕ} where
  pub listed : {list' : List ℕ} {n k : ℕ} → n ≡ length (chain_names o) → n ≤ length list → list' ≡ chain_names o ++ drop n list → followed_count g a b ≡ k
      → Lists g a b list list' (Ok (record { names = n; followed = k }))
  unfolding answer_meant answer_of places_after
  listed {list'} {n} {k} size fits held count =
      record {
        call = record {
          answer = rw (is, le-leb (length (chain_names o)) (length list) (omega arith)) (ap Rattle.meaning.specs.Calls.accepted size);
          places = rw (is, le-leb (length (chain_names o)) (length list) (omega arith)) (held ∙ ap (λ (i : ℕ). chain_names o ++ drop i list) size);
        };
        count = ap (λ (i : ℕ). result (i ∷ [])) count;
      }

  pub narrow : length list < length (chain_names o) → Lists g a b list list (Err NoRoom)
  unfolding answer_meant answer_of places_after
  narrow short =
      record {
        call = record {
          answer = rw (is, lt-leb (length (chain_names o)) (length list) short) refl;
          places = rw (is, lt-leb (length (chain_names o)) (length list) short) refl;
        };
        count = tt;
      }

-- the first place of a list that has one
first_set : (list : List ℕ) (v : ℕ) → 0 < length list → set list 0 v ≡ v ∷ drop 1 list
first_set [] v l = absurd (omega arith)
first_set (x ∷ list) v l = refl

-- from a name to itself
module _ (g : Graph) (a : ℕ) (list : List ℕ) where
  pub alone_narrow : length list ≡ 0 → Lists g a a list list (Err NoRoom)
  alone_narrow none = narrow (chain_self g a) (omega arith)

  pub alone_listed : 0 < length list → Lists g a a list (set list 0 a) (Ok (record { names = 1; followed = 0 }))
  alone_listed one = listed (chain_self g a) refl (omega arith) (first_set list a one) ((none_followed g a a).1 refl)

-- the number of a name, and the one behind the last where it has none
pub place_behind : (count : ℕ) (edges : List ℕ) (b : ℕ) (o : Option ℕ) {y : ℕ} → PlaceOf edges (5 * count + 1) 256 (names_in edges) b o → y ≡ unwrap_or o (names_in edges)
    → PlaceOr (member edges (5 * count + 1) 256) (names_in edges) b y
place_behind count edges b o p e = rw e (place_or o p)

-- the search from x, which has the name a, to y is over
module _ {count : ℕ} {edges : List ℕ} (s : Indexed count edges) (small : (i : ℕ) → get_or edges i 0 < 65536) {a b x y : ℕ}
    (p : Only (member edges (5 * count + 1) 256) (names_in edges) a x) (q : PlaceOr (member edges (5 * count + 1) 256) (names_in edges) b y) (ne : a ≡ b → ⊥) where
  -- the two names have two numbers
  pub two_numbers : x ≡ y → ⊥
  two_numbers e = ne (sym (p.here) ∙ ap (name_in count edges) e ∙ q.here (omega (arith, p.within)))

  module _ {work : List Place} {k : ℕ} (o : Explored count edges x y work k) where
    counted : followed_count (turned 1 (named count edges)) a b ≡ k
    counted = count_of s small p q ne ∙ o.over.followed

    chain : (j : ℕ) → long_in work y ≡ suc j → chain_of (turned 1 (named count edges)) a b ≡ some (map (name_in count edges) (leading (before_in work) j y))
    chain j e =
        let t = o.over.some j e in
        chain_some_of s small p q ne (before_in work) j (leads_inside (before_in work) (names_in edges) j y t.1) t.1 t.0

    size : (j : ℕ) → long_in work y ≡ suc j → long_in work y ≡ length (map (name_in count edges) (leading (before_in work) j y))
    size j e = e ∙ sym (leading_length (before_in work) j y) ∙ sym (length-map (leading (before_in work) j y) (name_in count edges))

    module _ {list : List ℕ} where
      pub found_narrow : length list < long_in work y → Lists (turned 1 (named count edges)) a b list list (Err NoRoom)
      found_narrow short = go (long_in work y) refl
        where
          go : (n : ℕ) → long_in work y ≡ n → Lists (turned 1 (named count edges)) a b list list (Err NoRoom)
          go zero e = absurd (omega arith)
          go (suc j) e = narrow (chain j e) (omega (arith, size j e))

      pub found_listed : {list' : List ℕ} → long_in work y ≤ length list
          → ((j : ℕ) → long_in work y ≡ suc j → list' ≡ map (name_in count edges) (leading (before_in work) j y) ++ drop (long_in work y) list) → (long_in work y ≡ 0 → list' ≡ list)
          → Lists (turned 1 (named count edges)) a b list list' (Ok (record { names = long_in work y; followed = k }))
      found_listed {list'} fits held empty = go (long_in work y) refl
        where
          go : (n : ℕ) → long_in work y ≡ n → Lists (turned 1 (named count edges)) a b list list' (Ok (record { names = long_in work y; followed = k }))
          go zero e = listed (chain_none_of s small p q ne (o.over.none e)) e fits (empty e ∙ sym (ap (λ (i : ℕ). drop i list) e)) counted
          go (suc j) e = listed (chain j e) (size j e) fits (held j e) counted
