-- The sink over a whole file keeps its promise.
use native.Mathlib.Omega.{arith}
use Prim.Native.Nat.{ℕ, ◌+◌, ◌*◌, ◌/◌, ◌≤◌}
use mathlib.Core.List.{List, [], ◌++◌, append-nil}
use mathlib.Core.Path.{◌≡◌, refl, sym, ◌∙◌, ap}
use mathlib.Core.Bool.{Bool, true, false, cond, ◌&&◌}
use lib.ListN.{length, drop, replicate, length-replicate}
use lib.Dec.{leb}
use borrow.Author.Tests.{leb-true}
use Rattle.definitions.specs.Layout.{TREE_ROW, NODE, EVENT_ROW, ERROR_ROW}
use Rattle.definitions.specs.Token.{Token, tokens_of}
use Rattle.definitions.specs.Skeleton.{Skeleton}
use Rattle.definitions.specs.Refusal.{no_tree_room, number_of}
use Rattle.definitions.specs.Place.{nil, subtree, ◌⊕◌, lead, after, place, root, count, lexical_errors, row_count}
use Rattle.definitions.specs.Parent.{rows, tree_row}
use Rattle.laws.specs.Lossless.{errors_in}
use Rattle.basics.proofs.Tests.{and_left, and_right}
use Rattle.sink.specs.Sunk.{Sunk, written, no_room}
use Rattle.machine.specs.Encode.{encode}
use Rattle.sink.specs.Encode.{Chained}
use Rattle.sink_tokens.specs.Tokens.{Log, log, errors_on}
use Rattle.sink.specs.Model.{On, on, sink_of, trivia_on, finish_on, eventsN, root_on, events_on, Finished, finished, finished_in, finish_all}
use Rattle.sink.specs.Promise.{number, Small, enough, Placed, Promise}
use Rattle.sink.proofs.Encode.{event_count, events_length, encode_count}
use Rattle.laws.proofs.Decode.{rows_length}
use Rattle.sink.proofs.Trees.{raw_place, root_width, root_rows_most}
use Rattle.sink.proofs.Grow.{Filled, state, grow, grow_grow, Fits, fits_front, fits_back, put_seam}
use Rattle.sink.proofs.Steps.{From, from_grown, trivia_runs, inside, finish_runs}
use Rattle.sink.proofs.Main.{Runs, Sinks, sinks, fits_inside}
use Rattle.sink.proofs.Same.{rows_alike}
use Rattle.sink.proofs.Errors.{found, errors_count, errors_written}
use Rattle.laws.proofs.LexicalErrors.{errors_length}

-- nothing written yet
abbrev pub begin : List ℕ → Filled
begin t = record { written = []; free = t; cursor = 0; byte = 0; rows = 0; node = 0; children = 0 }

abbrev pub answer_of : Finished → Sunk
answer_of (finished a t e) = a

abbrev trees_of : Finished → List ℕ
trees_of (finished a t e) = t

abbrev errors_of : Finished → List ℕ
errors_of (finished a t e) = e

answered_is : (trees errors : ℕ) (x : On) (y : Log) (n m : ℕ) → (sink_of x).rows ≡ n → found y ≡ m
    → answer_of (finished_in trees errors x y) ≡ cond (leb (n * TREE_ROW) trees && leb (m * ERROR_ROW) errors) (written n m) no_room
unfolding finished_in
answered_is trees errors (on s t) (log f e) n m p q = rw (p, q)

number_of_cond : (b : Bool) (n m : ℕ) → number (cond b (written n m) no_room) ≡ cond b 0 (number_of no_tree_room)
unfolding number
number_of_cond true n m = refl
number_of_cond false n m = refl

root_runs : (k : ℕ) (t : List ℕ) → TREE_ROW ≤ length t → root_on k t ≡ state (inside k (begin t))
unfolding root_on state inside
root_runs k t h = rw (put_seam 0 [] (tree_row NODE k 0 0 0 []) t refl refl h)

root_count : (k : ℕ) (o : Skeleton) (ts : List Token) → count (root k o ts) ≡ 1
unfolding root count
root_count k o ts = refl

root_rows : (k : ℕ) (o : Skeleton) (ts : List Token) → 1 ≤ row_count (root k o ts)
unfolding root row_count
root_rows k o ts = omega arith

from_begin : (k : ℕ) (t tokens : List ℕ) → From tokens (inside k (begin t)).cursor (tokens_of tokens)
unfolding inside
from_begin k t tokens = refl

module _ (k : ℕ) (o : Skeleton) (tokens : List ℕ) (c : Chained o) (small : Small o tokens) where
  root_fits : (t : List ℕ) → length (rows (root k o (tokens_of tokens))) ≤ length t → Fits (root k o (tokens_of tokens)) (begin t)
  root_fits t h =
      record {
        free = omega (arith, rows_length (root k o (tokens_of tokens)) 0 0);
        whole = refl;
        byte = omega (arith, small.bytes, root_width k o (tokens_of tokens));
        rows = omega (arith, small.rows, root_rows_most k o (tokens_of tokens), events_length false o);
        children = omega (arith, root_count k o (tokens_of tokens));
      }

  -- where the tree's rows fit
  tree_written : (t : List ℕ) → length (rows (root k o (tokens_of tokens))) ≤ length t → events_on k tokens (encode false o) t ≡ state (grow (root k o (tokens_of tokens)) (begin t))
  unfolding events_on root Sinks Runs
  tree_written t h =
      let events = encode false o in
      let ts = tokens_of tokens in
      let us = after o ts in
      let P = place o ts in
      let q = inside k (begin t) in
      let n = event_count o in
      let rw0 : Fits (subtree k (P ⊕ lead us) nil) (begin t) = root_fits t h in
      let r : Fits (P ⊕ lead us) q = fits_inside k (P ⊕ lead us) (begin t) rw0 in
      let h4 : TREE_ROW ≤ length t = omega (arith, rows_length (root k o ts) 0 0, root_rows k o ts) in
      let fr : From tokens q.cursor ts = from_begin k t tokens in
      let m : length events / EVENT_ROW ≡ n + 0 = omega (arith, encode_count false o) in
      let ran : eventsN (length events / EVENT_ROW) tokens events 0 (state q) ≡ state (grow P q) =
      ap (λ x. eventsN x tokens events 0 (state q)) m
      ∙ sinks tokens events small.numbers o false [] 0 ts q c (sym (append-nil events)) (λ z. omega arith) fr (fits_front P (lead us) q r) 0 in
      ap (λ x. finish_on (trivia_on tokens (eventsN (length events / EVENT_ROW) tokens events 0 x))) (root_runs k t h4)
      ∙ ap (λ x. finish_on (trivia_on tokens x)) ran
      ∙ ap (λ x. finish_on x) (trivia_runs tokens us (grow P q) (from_grown tokens P q ts us fr (raw_place o ts)) (fits_back P (lead us) q r))
      ∙ ap (λ s. finish_on (state s)) (grow_grow P (lead us) q)
      ∙ finish_runs k (P ⊕ lead us) (begin t) rw0

  -- how many rows there are, whether they fit or not
  tree_count : (t : List ℕ) → (sink_of (events_on k tokens (encode false o) t)).rows ≡ row_count (root k o (tokens_of tokens))
  unfolding state grow
  tree_count t =
      let R = rows (root k o (tokens_of tokens)) in
      let z : 0 + row_count (root k o (tokens_of tokens)) ≡ row_count (root k o (tokens_of tokens)) = omega arith in
      let zeros : List ℕ = replicate (length R) 0 in
      let n : length R ≤ length zeros = omega (arith, length-replicate {A = ℕ} (length R) 0) in
      rows_alike tokens k (encode false o) t zeros ∙ ap (λ x. (sink_of x).rows) (tree_written zeros n) ∙ z

  count_is : row_count (root k o (tokens_of tokens)) ≡ length (rows (root k o (tokens_of tokens))) / TREE_ROW
  count_is = omega (arith, rows_length (root k o (tokens_of tokens)) 0 0)

  found_is : errors_in (tokens_of tokens) ≡ length (lexical_errors 0 (tokens_of tokens)) / ERROR_ROW
  found_is = omega (arith, errors_length 0 (tokens_of tokens))

  -- the answer: whether both fit
  answer_is : (t e : List ℕ) → answer_of (finish_all k tokens (encode false o) t e)
      ≡ cond (enough (rows (root k o (tokens_of tokens))) (lexical_errors 0 (tokens_of tokens)) t e) (written (row_count (root k o (tokens_of tokens))) (errors_in (tokens_of tokens))) no_room
  unfolding finish_all finished_in
  answer_is t e =
      answered_is (length t) (length e) (events_on k tokens (encode false o) t) (errors_on tokens e) (row_count (root k o (tokens_of tokens))) (errors_in (tokens_of tokens)) (tree_count t) (errors_count tokens e small.numbers)
      ∙ (let z : row_count (root k o (tokens_of tokens)) * TREE_ROW ≡ length (rows (root k o (tokens_of tokens))) = omega (arith, rows_length (root k o (tokens_of tokens)) 0 0) in
      let y : errors_in (tokens_of tokens) * ERROR_ROW ≡ length (lexical_errors 0 (tokens_of tokens)) = omega (arith, errors_length 0 (tokens_of tokens)) in
      rw (z, y))

  -- where both fit
  whole_written : (t e : List ℕ) → length (rows (root k o (tokens_of tokens))) ≤ length t → length (lexical_errors 0 (tokens_of tokens)) ≤ length e
      → finish_all k tokens (encode false o) t e
      ≡ finished_in (length t) (length e) (state (grow (root k o (tokens_of tokens)) (begin t))) (log (errors_in (tokens_of tokens)) (lexical_errors 0 (tokens_of tokens) ++ drop (length (lexical_errors 0 (tokens_of tokens))) e))
  unfolding finish_all
  whole_written t e p q =
      ap (λ x. finished_in (length t) (length e) x (errors_on tokens e)) (tree_written t p)
      ∙ ap (λ y. finished_in (length t) (length e) (state (grow (root k o (tokens_of tokens)) (begin t))) y) (errors_written tokens e small.numbers small.bytes q)

  placed : (t e : List ℕ) (a : Sunk) (u f : List ℕ) → finished a u f ≡ finish_all k tokens (encode false o) t e → Placed k o tokens t e a u f
  unfolding finished_in state grow
  placed t e a u f g =
      let R = rows (root k o (tokens_of tokens)) in
      let L = lexical_errors 0 (tokens_of tokens) in
      let says : a ≡ cond (enough R L t e) (written (row_count (root k o (tokens_of tokens))) (errors_in (tokens_of tokens))) no_room = ap answer_of g ∙ answer_is t e in
      record {
        fits =
            λ h.
            let p : length R ≤ length t = leb-true (length R) (length t) (and_left (leb (length R) (length t)) (leb (length L) (length e)) h) in
            let q : length L ≤ length e = leb-true (length L) (length e) (and_right (leb (length R) (length t)) (leb (length L) (length e)) h) in
            record {
              counts = says ∙ ap (λ b. cond b (written (row_count (root k o (tokens_of tokens))) (errors_in (tokens_of tokens))) no_room) h ∙ rw (count_is, found_is);
              rows = ap trees_of (g ∙ whole_written t e p q) ∙ ap (λ (m : ℕ). R ++ drop m t) (sym (rows_length (root k o (tokens_of tokens)) 0 0));
              lexical = ap errors_of (g ∙ whole_written t e p q);
            };
        lacks = λ h. says ∙ ap (λ b. cond b (written (row_count (root k o (tokens_of tokens))) (errors_in (tokens_of tokens))) no_room) h;
        refusal = ap number says ∙ number_of_cond (enough R L t e) (row_count (root k o (tokens_of tokens))) (errors_in (tokens_of tokens));
      }

-- THE MACHINE KEEPS THE PROMISE
pub kept_promise : (k : ℕ) (tokens events t e : List ℕ) (a : Sunk) (u f : List ℕ) → finished a u f ≡ finish_all k tokens events t e → Promise k tokens events t e a u f
kept_promise k tokens events t e a u f g o h c small = placed k o tokens c small t e a u f (g ∙ ap (λ x. finish_all k tokens x t e) h)
