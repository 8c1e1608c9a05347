-- What may be refused on a walk. What holds of refusals 5 to 7, wherever they come, and of the machine that a walk begins
-- with, holds of the one that it comes to. So the cause of a run, which begins with none, is none or one of these.
use Prim.Native.Nat.{ℕ, zero, suc}
use native.Mathlib.Omega.{arith}
use mathlib.Core.Path.{refl}
use mathlib.Core.Bool.{Bool, true, false, cond, ◌&&◌}
use mathlib.Core.List.{List, [], ◌∷◌}
use lib.Dec.{eqb}
use lib.ListN.{length}
use Rattle.definitions.specs.Layout.{EVENT_ROW, REPORT_ROW, PLACEHOLDER, START_NODE, FINISH_NODE, ADD_TOKEN, ADD_COMBINED_TOKEN, ERROR, LINKED_START_NODE, TOO_DEEP, NO_EVENT_ROOM, NO_REPORT_ROOM, MOST_OPEN_CALLS}
use Rattle.definitions.specs.TokenKind as K
use Rattle.definitions.specs.Errors as E
use Rattle.definitions.specs.Token.{Token, seen, trivia, ended, one_of, first_in, tokens_of}
use Rattle.definitions.specs.Skeleton.{Span}
use Rattle.definitions.specs.Prog.{choose, Ans, no, yes, also, again, Rule, Act, silent_at, at_end, immediate, immediate_next, add_expected, bump, bump_name, bump_argument, emit, emit_unclosed, less, Prog, ret, act, ◌⨟◌, case, in_marker, loop, chain, brace, open_call}
use Rattle.definitions.specs.Grammar.{grammar, Entry, whole}
use Rattle.definitions.specs.Run.{is_again, by_shape, pool_of}
use Rattle.basics.proofs.Tests.{cond-all}
use Rattle.machine.specs.Machine.{Machine, Marker, rest, with_refusal, with_events, passed, skip, peek, took, range_at, refuse, expect_code, fits, push_row, push, put_start, complete, precede, bump_first, name_stretch, name_first, write_report}
use Rattle.machine.specs.Machine as M
use Rattle.machine.specs.Walk.{Walked, said, at_depth, argument, unlabelled, perform, next_marker, close, marked, goes_on, iter, link, links, chained, walk, walk_rule, walk_prog}
use Rattle.machine.proofs.Sticky.{turn}
use Rattle.parser.specs.View.{take_first}
use Rattle.grammar.specs.Runs.{MayRefuse, run_of}

-- it holds of the machine's refusal and its place
pub record Holds (P : ℕ → ℕ → Type 0) (m : Machine) : Type 0 where
  pub it : P m.refusal m.place

module _ (P : ℕ → ℕ → Type 0) (five : (x : ℕ) → P TOO_DEEP x) (six : (x : ℕ) → P NO_EVENT_ROOM x) (seven : (x : ℕ) → P NO_REPORT_ROOM x) (ts : List Token) where
  both : (b : Bool) (x y : Machine) → Holds P x → Holds P y → Holds P (cond b x y)
  both true x y f g = f
  both false x y f g = g

  -- ---------------------------------------------------------------- primitives

  of_skip : (l : List Token) (m : Machine) → Holds P m → Holds P (skip l m)
  unfolding skip
  of_skip [] m h = h
  of_skip (t ∷ l) m h = cond-all (Holds P) (trivia t) {x = skip l (passed t m)} {y = m} (of_skip l (passed t m) (record { it = h.it })) h

  pub of_peek : (m : Machine) → Holds P m → Holds P (peek ts m)
  unfolding peek
  of_peek m h = of_skip (rest ts m) m h

  pub of_refuse : (n : ℕ) → ((x : ℕ) → P n x) → (m : Machine) → Holds P m → Holds P (refuse n m)
  unfolding refuse
  of_refuse n all m h =
      let i : Holds P (cond (eqb m.refusal 0) (with_refusal n m.mark m) m) = both (eqb m.refusal 0) _ m (record { it = all m.mark }) h in
      record { it = i.it }

  pub of_expect : (k : ℕ) (m : Machine) → Holds P m → Holds P (expect_code k m)
  unfolding expect_code
  of_expect k m h = record { it = h.it }

  pub of_push_row : (tag v : ℕ) (m : Machine) → Holds P m → Holds P (push_row tag v m)
  unfolding push_row
  of_push_row tag v m h =
      both (fits (length m.events.numbers) m.events.count EVENT_ROW) _ (refuse NO_EVENT_ROOM m) (record { it = h.it }) (of_refuse NO_EVENT_ROOM six m h)

  pub of_push : (tag v : ℕ) (m : Machine) → Holds P m → Holds P (push tag v m)
  unfolding push
  of_push tag v m h = both (eqb m.refusal 0) (push_row tag v m) m (of_push_row tag v m h) h

  pub of_complete : (k : Marker) (kind : ℕ) (m : Machine) → Holds P m → Holds P (complete k kind m)
  unfolding complete
  of_complete k kind m h =
      let marked = with_events (record { count = m.events.count; numbers = put_start k kind m.events.numbers }) m in
      both (eqb m.refusal 0) (push_row FINISH_NODE 0 marked) m (of_push_row FINISH_NODE 0 marked (record { it = h.it })) h

  pub of_precede : (k : Marker) (m : Machine) → Holds P m → Holds P (precede k m)
  unfolding precede
  of_precede k m h =
      let p = push PLACEHOLDER 0 m in
      let q : Holds P p = of_push PLACEHOLDER 0 m h in
      both (eqb p.refusal 0) _ p (record { it = q.it }) q

  of_link : (k : Marker) (kind : ℕ) (m : Machine) → Holds P m → Holds P (link k kind m)
  unfolding link
  of_link k kind m h = of_precede k (complete k kind m) (of_complete k kind m h)

  -- ---------------------------------------------------------------- actions

  of_first : (l : List Token) (m : Machine) → Holds P m → Holds P (bump_first l m)
  unfolding bump_first
  of_first [] m h = h
  of_first (t ∷ l) m h = of_push ADD_TOKEN 0 (took t m) (record { it = h.it })

  pub of_take_first : (l : List Token) (m : Machine) → Holds P m → Holds P (take_first l m)
  unfolding take_first
  of_take_first [] m h = h
  of_take_first (t ∷ l) m h = record { it = h.it }

  pub of_bump : (m : Machine) → Holds P m → Holds P (M.bump ts m)
  unfolding M.bump
  of_bump m h = of_first (rest ts (peek ts m)) (peek ts m) (of_peek m h)

  of_stretch : (ks : List ℕ) (l : List Token) (m : Machine) → Holds P m → Holds P (name_stretch ks l m)
  unfolding name_stretch
  of_stretch ks [] m h = h
  of_stretch ks (t ∷ l) m h = cond-all (Holds P) (one_of ks (seen t)) {x = name_stretch ks l (took t m)} {y = m} (of_stretch ks l (took t m) (record { it = h.it })) h

  of_name : (ks : List ℕ) (l : List Token) (m : Machine) → Holds P m → Holds P (name_first ks l m)
  unfolding name_first
  of_name ks [] m h = h
  of_name ks (t ∷ l) m h = of_push ADD_COMBINED_TOKEN _ (name_stretch ks l (took t m)) (of_stretch ks l (took t m) (record { it = h.it }))

  pub of_bump_name : (ks : List ℕ) (m : Machine) → Holds P m → Holds P (M.bump_name ks ts m)
  unfolding M.bump_name
  of_bump_name ks m h = of_name ks (rest ts (peek ts m)) (peek ts m) (of_peek m h)

  pub of_write : (n h : ℕ) (range lab : Span) (m : Machine) → Holds P m → Holds P (write_report n h range lab m)
  unfolding write_report
  of_write n h range lab m i =
      let codes = pool_of n m.pending.codes in
      both (eqb m.refusal 0) _ m
      (both (fits (length m.reports.numbers) m.reports.count REPORT_ROW && fits (length m.pool.numbers) m.pool.count (length codes)) _ (refuse NO_REPORT_ROOM m)
      (record { it = i.it }) (of_refuse NO_REPORT_ROOM seven m i)) i

  pub of_emit : (n h : ℕ) (lab : Span) (m : Machine) → Holds P m → Holds P (M.emit ts n h lab m)
  unfolding M.emit
  of_emit n h lab m i = of_write n h _ lab (push ERROR 0 (peek ts m)) (of_push ERROR 0 (peek ts m) (of_peek m i))

  either : (b : Bool) (x y : Walked) → Holds P x.on → Holds P y.on → Holds P (cond b x y).on
  either true x y f g = f
  either false x y f g = g

  of_depth : (n : ℕ) (w : Walked) (f : ℕ → Walked) → Holds P w.on → ((k : ℕ) → Holds P (f k).on) → Holds P (at_depth n w f).on
  of_depth zero w f h g = h
  of_depth (suc n) w f h g = g n

  pub of_argument : (f n : ℕ) (m : Machine) → Holds P m → Holds P (argument f ts n m).on
  unfolding argument
  of_argument zero n m h = h
  of_argument (suc f) n m h =
      let p = peek ts m in
      let q : Holds P p = of_peek m h in
      let go : ℕ → Walked = λ k. argument f ts k (M.bump ts p) in
      let all : (k : ℕ) → Holds P (go k).on = λ k. of_argument f k (M.bump ts p) (of_bump p q) in
      let bracket = at_depth n (said no p) go in
      let comma = at_depth n (said yes p) (λ k. go (suc k)) in
      let y = cond (first_in (K.Comma ∷ []) (rest ts p)) comma (go n) in
      let x = cond (first_in (K.RParen ∷ []) (rest ts p)) bracket y in
      either (ended (rest ts p)) (said no p) (cond (first_in (K.LParen ∷ []) (rest ts p)) (go (suc n)) x) q
      (either (first_in (K.LParen ∷ []) (rest ts p)) (go (suc n)) x (all (suc n))
      (either (first_in (K.RParen ∷ []) (rest ts p)) bracket y (of_depth n (said no p) go q all)
      (either (first_in (K.Comma ∷ []) (rest ts p)) comma (go n) (of_depth n (said yes p) (λ k. go (suc k)) q (λ k. all (suc k))) (all n))))

  pub of_perform : (b : Span) (a : Act) (m : Machine) → Holds P m → Holds P (perform ts b a m).on
  unfolding perform
  of_perform b (silent_at ks) m h = of_peek m h
  of_perform b at_end m h = of_peek m h
  of_perform b (immediate k) m h = h
  of_perform b (immediate_next k) m h = h
  of_perform b (add_expected k) m h = of_expect k m h
  of_perform b bump m h = of_bump m h
  of_perform b (bump_name ks) m h = of_bump_name ks m h
  of_perform b bump_argument m h = of_argument (suc (length (rest ts m))) 0 m h
  of_perform b (emit n k) m h = of_emit n k unlabelled m h
  of_perform b emit_unclosed m h = of_emit E.unclosed_node E.no_hint b m h
  of_perform b (less l n) m h = h

  -- ---------------------------------------------------------------- programs

  pub of_closed : (k : Marker) (w : Walked) → Holds P w.on → Holds P (marked k w).on
  unfolding marked close
  of_closed k w h = by w.shape
    where
      by : (n : ℕ) → Holds P (close k n w.on)
      by zero = of_push PLACEHOLDER 0 w.on h
      by (suc n) = of_complete k (suc n) w.on h

  of_choose : (a : Ans) (n y z : Machine → Walked) → ((m : Machine) → Holds P m → Holds P (n m).on) → ((m : Machine) → Holds P m → Holds P (y m).on) → ((m : Machine) → Holds P m → Holds P (z m).on)
      → (m : Machine) → Holds P m → Holds P (choose a n y z m).on
  unfolding choose
  of_choose no n y z p q t m h = p m h
  of_choose yes n y z p q t m h = q m h
  of_choose also n y z p q t m h = t m h
  of_choose again n y z p q t m h = q m h

  of_iter : (n : ℕ) (f : Machine → Walked) → ((m : Machine) → Holds P m → Holds P (f m).on) → (m : Machine) → Holds P m → Holds P (iter ts n f m).on
  unfolding iter
  of_iter zero f k m h = h
  of_iter (suc n) f k m h = either (goes_on ts m (f m)) (iter ts n f (f m).on) (said (f m).ans (f m).on) (of_iter n f k (f m).on (k m h)) (k m h)

  shaped : (j : ℕ) (x y : Walked) → Holds P x.on → Holds P y.on → Holds P (by_shape j x y).on
  unfolding by_shape
  shaped zero x y f g = f
  shaped (suc j) x y f g = g

  of_turn : (n : ℕ) (f : Machine → Walked) → ((k : Marker) (m : Machine) → Holds P m → Holds P (links ts n f k m).on) → (k : Marker) (m : Machine) (w : Walked) → Holds P w.on → Holds P (turn ts n f k m w).on
  of_turn n f g k m w h =
      let x = link k w.shape w.on in
      let q : Holds P x = of_link k w.shape w.on h in
      let next = next_marker LINKED_START_NODE (complete k w.shape w.on) in
      let more = links ts n f next x in
      let last : Walked = said w.ans (push PLACEHOLDER 0 x) in
      shaped w.shape (said w.ans (push PLACEHOLDER 0 w.on)) (cond (goes_on ts m w) more last) (of_push PLACEHOLDER 0 w.on h)
      (either (goes_on ts m w) more last (g next x q) (of_push PLACEHOLDER 0 x q))

  of_links : (n : ℕ) (f : Machine → Walked) → ((m : Machine) → Holds P m → Holds P (f m).on) → (k : Marker) (m : Machine) → Holds P m → Holds P (links ts n f k m).on
  unfolding links
  of_links zero f g k m h = of_push PLACEHOLDER 0 m h
  of_links (suc n) f g k m h = of_turn n f (of_links n f g) k m (f m) (g m h)

  of_chained : (f : Machine → Walked) → ((m : Machine) → Holds P m → Holds P (f m).on) → (k : Marker) (w : Walked) → Holds P w.on → Holds P (chained ts f k w).on
  unfolding chained
  of_chained f g k w h =
      either (is_again w.ans) (links ts (suc (length (rest ts w.on))) f k w.on) (said w.ans (push PLACEHOLDER 0 w.on))
      (of_links (suc (length (rest ts w.on))) f g k w.on h) (of_push PLACEHOLDER 0 w.on h)

  pub of_walk : (ask : Rule → Machine → Walked) → ((c : Rule) (m : Machine) → Holds P m → Holds P (ask c m).on) → (b : Span) (p : Prog) (m : Machine) → Holds P m → Holds P (walk ask ts b p m).on
  unfolding walk
  of_walk ask k b (ret j a) m h = h
  of_walk ask k b (act a) m h = of_perform b a m h
  of_walk ask k b (p ⨟ q) m h = of_walk ask k b q (walk ask ts b p m).on (of_walk ask k b p m h)
  of_walk ask k b (case c n y a) m h =
      of_choose (walk ask ts b c m).ans (walk ask ts b n) (walk ask ts b y) (walk ask ts b a) (of_walk ask k b n) (of_walk ask k b y) (of_walk ask k b a) (walk ask ts b c m).on (of_walk ask k b c m h)
  of_walk ask k b (in_marker p) m h = of_closed (next_marker START_NODE m) (walk ask ts b p (push PLACEHOLDER 0 m)) (of_walk ask k b p (push PLACEHOLDER 0 m) (of_push PLACEHOLDER 0 m h))
  of_walk ask k b (loop p) m h = of_iter (suc (length (rest ts m))) (walk ask ts b p) (of_walk ask k b p) m h
  of_walk ask k b (chain p q) m h =
      of_chained (walk ask ts b q) (of_walk ask k b q) (next_marker START_NODE m) (walk ask ts b p (push PLACEHOLDER 0 m)) (of_walk ask k b p (push PLACEHOLDER 0 m) (of_push PLACEHOLDER 0 m h))
  of_walk ask k b (brace p) m h = of_walk ask k (range_at (rest ts m) m) p m h
  of_walk ask k b (open_call c) m h = k c m h

  pub of_rule : (n : ℕ) (c : Rule) (m : Machine) → Holds P m → Holds P (walk_rule n ts c m).on
  unfolding walk_rule
  of_rule zero c m h = of_refuse TOO_DEEP five m h
  of_rule (suc n) c m h = of_walk (walk_rule n ts) (of_rule n) unlabelled (grammar c) m h

-- the causes of a run, for any tokens and buffers
pub run_may_refuse : (e : Entry) (tokens events reports pool : List ℕ) → MayRefuse (run_of e tokens events reports pool).refusal (run_of e tokens events reports pool).place
unfolding walk_prog
run_may_refuse e tokens events reports pool =
    let ts = tokens_of tokens in
    let five : (x : ℕ) → MayRefuse TOO_DEEP x = λ x. record { none = λ e. absurd (omega (arith, e)); least = λ h. omega arith; most = omega arith } in
    let six : (x : ℕ) → MayRefuse NO_EVENT_ROOM x = λ x. record { none = λ e. absurd (omega (arith, e)); least = λ h. omega arith; most = omega arith } in
    let seven : (x : ℕ) → MayRefuse NO_REPORT_ROOM x = λ x. record { none = λ e. absurd (omega (arith, e)); least = λ h. omega arith; most = omega arith } in
    (of_walk MayRefuse five six seven ts (walk_rule MOST_OPEN_CALLS ts) (of_rule MayRefuse five six seven ts MOST_OPEN_CALLS) unlabelled (whole e) _
    (record { it = record { none = λ e. refl; least = λ h. absurd (omega (arith, h)); most = omega arith } })).it
