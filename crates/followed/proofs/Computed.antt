-- The examples of specs/Examples.antt, by computation.
use mathlib.Core.Path.{refl}
use mathlib.Core.Option.{or_else}
use Rattle.meaning.specs.Chain.{chain_of, first_walk, walk_of, first_of, only_if}
use Rattle.followed.specs.Followed.{mentioned, reachable, followed_names, followed_count}
use Rattle.followed.specs.Examples.{Examples}

pub computed : Examples
unfolding followed_count followed_names reachable mentioned chain_of first_walk walk_of first_of only_if or_else
computed = record {
  to_itself = refl;
  fewer_first = refl;
  earlier_first = refl;
  one = refl;
  two = refl;
  three = refl;
  four = refl;
  five = refl;
  six = refl;
  seven = refl;
  eight = refl;
  nine = refl;
  ten = refl;
  eleven = refl;
  twelve = refl;
  thirteen = refl;
}
