-- What a call for a chain answers for the edges of a bundle.
--     lists_prepared         over prepared edges
--     called, turned_down    the call for an accepted bundle, and for bytes that are refused
use Prim.Native.Nat.{ℕ}
use mathlib.Core.Path.{◌≡◌, refl, sym, ap, subst, ◌∙◌}
use mathlib.Core.Bool.{false}
use mathlib.Core.List.{List, [], ◌∷◌}
use mathlib.Core.Option.{Option}
use Rattle.meaning.specs.Tree.{Bundle}
use Rattle.meaning.specs.Chain.{Graph, chain_of}
use Rattle.meaning.specs.Circle.{circles}
use Rattle.meaning.specs.Violations.{graph, find_layout_dependency_chain}
use Rattle.meaning.specs.Calls as calls
use Rattle.meaning.specs.Due.{chain_names, chaining}
use Rattle.meaning.proofs.Chains.{Renamed, chain_of_same}
use Rattle.bundle.specs.Definitions.{bundle_of}
use Rattle.bundle.specs.Opened.{LayoutOf}
use Rattle.bundle.specs.declared.Layout.{Layout}
use Rattle.bundle.proofs.AnswerLaws.{due_opened}
use Rattle.followed.specs.Followed.{followed_count, following}
use Rattle.followed.proofs.FollowedExchanges.{count_map}
use Rattle.chain.specs.Edges.{graph_at, turned}
use Rattle.chain.specs.Index.{named, Prepared}
use Rattle.chain.proofs.Edges.{graph_read}
use Rattle.chain.proofs.Named.{prepared_same}
use Rattle.std.specs.Prelude.{Result, Err}
use Rattle.refusal.specs.declared.Refusal.{Refusal}
use Rattle.refusal.specs.Numbers.{number}
use Rattle.search_from.specs.declared.Listed.{Listed}
use Rattle.search_from.specs.Listing.{answer_meant, CountIs, Lists}
use Rattle.find_chain.specs.ChainCall.{ChainCall}

-- edges with the same names have the same chain and count
module _ {g h : Graph} (same : Renamed (λ n. n) g h) (a b : ℕ) where
  chain_same : chain_of h a b ≡ chain_of g a b
  chain_same = chain_of_same g h same a b

  count_same : followed_count h a b ≡ followed_count g a b
  count_same = count_map (λ n. n) (λ m n. refl) g h same a b

-- what is said of a count, where it is the same
count_is : {o p : calls.Outcome} (r : Result Listed Refusal) → o ≡ p → CountIs o r → CountIs p r
count_is r e c = subst (λ (x : calls.Outcome). CountIs x r) e c

pub lists_prepared : {g : Graph} {count : ℕ} {edges : List ℕ} → Prepared (turned 1 g) count edges → (a b : ℕ) {list list' : List ℕ} {r : Result Listed Refusal}
    → Lists (turned 1 (named count edges)) a b list list' r → Lists g a b list list' r
lists_prepared {g} {count} {edges} p a b {list} {list'} {r} l =
    record {
      call = subst (λ (o : Option (List ℕ)). calls.Call (calls.result (chain_names o)) list list' (answer_meant r)) (chain_same same a b) l.call;
      count = count_is r (ap (λ (k : ℕ). calls.result (k ∷ [])) (count_same same a b)) l.count;
    }
  where
    same : Renamed (λ n. n) g (turned 1 (named count edges))
    same = let t = prepared_same p in record { count = t.count; from = t.to; to = t.from }

module _ {s places : List ℕ} {l : Layout} (a b : ℕ) (layout : LayoutOf s l places) (no_circle : circles (bundle_of s) ≡ false) where
  tree : Renamed (λ n. n) (graph_at s l.edges_at l.edges) (graph (bundle_of s))
  tree =
      subst (λ (n : ℕ). Renamed (λ m. m) (graph_at s l.edges_at n) (graph (bundle_of s))) (sym layout.edges)
      (graph_read s (bundle_of s) l.edges_at layout.from)

  chain_due : calls.result (chain_names (chain_of (graph_at s l.edges_at l.edges) a b)) ≡ chaining a b s
  unfolding chaining find_layout_dependency_chain
  chain_due =
      ap (λ (o : Option (List ℕ)). calls.result (chain_names o)) (sym (chain_same tree a b))
      ∙ sym (due_opened layout no_circle (λ t. calls.result (chain_names (find_layout_dependency_chain t a b))))

  count_due : calls.result (followed_count (graph_at s l.edges_at l.edges) a b ∷ []) ≡ following a b s
  unfolding following
  count_due =
      ap (λ (k : ℕ). calls.result (k ∷ [])) (sym (count_same tree a b)) ∙ sym (due_opened layout no_circle (λ t. calls.result (followed_count (graph t) a b ∷ [])))

  pub called : {list list' : List ℕ} {r : Result Listed Refusal} → Lists (graph_at s l.edges_at l.edges) a b list list' r → ChainCall a b s list list' r
  called {list} {list'} {r} f = record { call = subst (λ (o : calls.Outcome). calls.Call o list list' (answer_meant r)) chain_due f.call; count = count_is r count_due f.count }

pub turned_down : (a b : ℕ) {s : List ℕ} (r : Refusal) (list : List ℕ) → ((f : Bundle → calls.Outcome) → calls.on_bundle f s ≡ calls.refusal (number r)) → ChainCall a b s list list (Err r)
unfolding answer_meant calls.answer_of calls.places_after chaining
turned_down a b r list e = record { call = rw (e _) (record { answer = refl; places = refl }); count = tt }
