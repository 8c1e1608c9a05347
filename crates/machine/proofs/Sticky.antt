-- A refusal stays: its number and its place, whatever the machine walks after it.
use Prim.Native.Nat.{ℕ, zero, suc}
use native.Mathlib.Omega.{arith}
use mathlib.Core.Path.{◌≡◌, sym, subst}
use mathlib.Core.Bool.{Bool, true, false, cond}
use mathlib.Core.List.{List, [], ◌∷◌}
use lib.Dec.{eqb}
use lib.ListN.{length}
use borrow.Author.Tests.{ne_eqb}
use Rattle.definitions.specs.Layout.{PLACEHOLDER, START_NODE, ADD_TOKEN, ADD_COMBINED_TOKEN, ERROR, LINKED_START_NODE, TOO_DEEP}
use Rattle.definitions.specs.TokenKind as K
use Rattle.definitions.specs.Errors as E
use Rattle.definitions.specs.Token.{Token, seen, trivia, ended, one_of, first_in}
use Rattle.definitions.specs.Skeleton.{Span}
use Rattle.definitions.specs.Refusal.{Refusal}
use Rattle.definitions.specs.Prog.{choose, Ans, no, yes, also, again, Rule, Act, silent_at, at_end, immediate, immediate_next, add_expected, bump, bump_name, bump_argument, emit, emit_unclosed, less, Prog, ret, act, ◌⨟◌, case, in_marker, loop, chain, brace, open_call}
use Rattle.definitions.specs.Grammar.{grammar}
use Rattle.definitions.specs.Run.{is_again, by_shape}
use Rattle.basics.proofs.Tests.{cond-all}
use Rattle.machine.specs.Machine.{Machine, Marker, rest, with_refusal, passed, skip, peek, took, range_at, refuse, expect_code, push_row, push, complete, precede, bump_first, name_stretch, name_first, write_report}
use Rattle.machine.specs.Machine as M
use Rattle.machine.specs.Walk.{Walked, said, at_depth, argument, unlabelled, perform, next_marker, close, marked, goes_on, iter, link, links, chained, walk, walk_rule}
use Rattle.machine.specs.Outcome.{Refused}

-- whatever is refused stays so
abbrev pub Sticks : List Token → (Machine → Walked) → Type 0
Sticks ts g = (r : Refusal) (m : Machine) → Refused ts r m → Refused ts r (g m).on

-- the rest of a chain's turn that came to w from m
abbrev pub turn : List Token → ℕ → (Machine → Walked) → Marker → Machine → Walked → Walked
turn ts n f k m w =
    by_shape w.shape (said w.ans (push PLACEHOLDER 0 w.on))
    (cond (goes_on ts m w) (links ts n f (next_marker LINKED_START_NODE (complete k w.shape w.on)) (link k w.shape w.on)) (said w.ans (push PLACEHOLDER 0 (link k w.shape w.on))))

module _ (ts : List Token) (r : Refusal) where
  on : (m : Machine) → Refused ts r m → eqb m.refusal 0 ≡ false
  on m h = ne_eqb m.refusal 0 (λ e. let no : ⊥ = omega (arith, h.some) in absurd no)

  -- where nothing is done once something is refused
  idle : (m x : Machine) → Refused ts r m → Refused ts r (cond (eqb m.refusal 0) x m)
  idle m x h = subst (λ (b : Bool). Refused ts r (cond b x m)) (sym (on m h)) h

  -- ---------------------------------------------------------------- primitives

  s_skip : (l : List Token) (m : Machine) → Refused ts r m → Refused ts r (skip l m)
  unfolding skip
  s_skip [] m h = h
  s_skip (t ∷ l) m h = cond-all (Refused ts r) (trivia t) {x = skip l (passed t m)} {y = m} (s_skip l (passed t m) (record { refusal = h.refusal; some = h.some; place = h.place })) h

  s_peek : (m : Machine) → Refused ts r m → Refused ts r (peek ts m)
  unfolding peek
  s_peek m h = s_skip (rest ts m) m h

  s_refuse : (n : ℕ) (m : Machine) → Refused ts r m → Refused ts r (refuse n m)
  unfolding refuse
  s_refuse n m h = let i : Refused ts r (cond (eqb m.refusal 0) (with_refusal n m.mark m) m) = idle m (with_refusal n m.mark m) h in record { refusal = i.refusal; some = i.some; place = i.place }

  s_expect : (k : ℕ) (m : Machine) → Refused ts r m → Refused ts r (expect_code k m)
  unfolding expect_code
  s_expect k m h = record { refusal = h.refusal; some = h.some; place = h.place }

  pub s_push : (tag v : ℕ) (m : Machine) → Refused ts r m → Refused ts r (push tag v m)
  unfolding push
  s_push tag v m h = idle m (push_row tag v m) h

  pub s_complete : (k : Marker) (kind : ℕ) (m : Machine) → Refused ts r m → Refused ts r (complete k kind m)
  unfolding complete
  s_complete k kind m h = idle m _ h

  pub s_precede : (k : Marker) (m : Machine) → Refused ts r m → Refused ts r (precede k m)
  unfolding precede
  s_precede k m h = idle (push PLACEHOLDER 0 m) _ (s_push PLACEHOLDER 0 m h)

  pub s_link : (k : Marker) (kind : ℕ) (m : Machine) → Refused ts r m → Refused ts r (link k kind m)
  unfolding link
  s_link k kind m h = s_precede k (complete k kind m) (s_complete k kind m h)

  -- ---------------------------------------------------------------- actions

  s_first : (l : List Token) (m : Machine) → Refused ts r m → Refused ts r (bump_first l m)
  unfolding bump_first
  s_first [] m h = h
  s_first (t ∷ l) m h = s_push ADD_TOKEN 0 (took t m) (record { refusal = h.refusal; some = h.some; place = h.place })

  s_bump : (m : Machine) → Refused ts r m → Refused ts r (M.bump ts m)
  unfolding M.bump
  s_bump m h = s_first (rest ts (peek ts m)) (peek ts m) (s_peek m h)

  s_run : (ks : List ℕ) (l : List Token) (m : Machine) → Refused ts r m → Refused ts r (name_stretch ks l m)
  unfolding name_stretch
  s_run ks [] m h = h
  s_run ks (t ∷ l) m h = cond-all (Refused ts r) (one_of ks (seen t)) {x = name_stretch ks l (took t m)} {y = m} (s_run ks l (took t m) (record { refusal = h.refusal; some = h.some; place = h.place })) h

  s_name : (ks : List ℕ) (l : List Token) (m : Machine) → Refused ts r m → Refused ts r (name_first ks l m)
  unfolding name_first
  s_name ks [] m h = h
  s_name ks (t ∷ l) m h = s_push ADD_COMBINED_TOKEN _ (name_stretch ks l (took t m)) (s_run ks l (took t m) (record { refusal = h.refusal; some = h.some; place = h.place }))

  s_bump_name : (ks : List ℕ) (m : Machine) → Refused ts r m → Refused ts r (M.bump_name ks ts m)
  unfolding M.bump_name
  s_bump_name ks m h = s_name ks (rest ts (peek ts m)) (peek ts m) (s_peek m h)

  pub s_write : (n h : ℕ) (range lab : Span) (m : Machine) → Refused ts r m → Refused ts r (write_report n h range lab m)
  unfolding write_report
  s_write n h range lab m i = idle m _ i

  s_emit : (n h : ℕ) (lab : Span) (m : Machine) → Refused ts r m → Refused ts r (M.emit ts n h lab m)
  unfolding M.emit
  s_emit n h lab m i = s_write n h _ lab (push ERROR 0 (peek ts m)) (s_push ERROR 0 (peek ts m) (s_peek m i))

  pub either : (b : Bool) (x y : Walked) → Refused ts r x.on → Refused ts r y.on → Refused ts r (cond b x y).on
  either true x y f g = f
  either false x y f g = g

  s_depth : (n : ℕ) (w : Walked) (f : ℕ → Walked) → Refused ts r w.on → ((k : ℕ) → Refused ts r (f k).on) → Refused ts r (at_depth n w f).on
  s_depth zero w f h g = h
  s_depth (suc n) w f h g = g n

  pub s_argument : (f n : ℕ) (m : Machine) → Refused ts r m → Refused ts r (argument f ts n m).on
  unfolding argument
  s_argument zero n m h = h
  s_argument (suc f) n m h =
      let p = peek ts m in
      let q : Refused ts r p = s_peek m h in
      let go : ℕ → Walked = λ k. argument f ts k (M.bump ts p) in
      let all : (k : ℕ) → Refused ts r (go k).on = λ k. s_argument f k (M.bump ts p) (s_bump p q) in
      let bracket = at_depth n (said no p) go in
      let comma = at_depth n (said yes p) (λ k. go (suc k)) in
      let y = cond (first_in (K.Comma ∷ []) (rest ts p)) comma (go n) in
      let x = cond (first_in (K.RParen ∷ []) (rest ts p)) bracket y in
      either (ended (rest ts p)) (said no p) (cond (first_in (K.LParen ∷ []) (rest ts p)) (go (suc n)) x) q
      (either (first_in (K.LParen ∷ []) (rest ts p)) (go (suc n)) x (all (suc n))
      (either (first_in (K.RParen ∷ []) (rest ts p)) bracket y (s_depth n (said no p) go q all)
      (either (first_in (K.Comma ∷ []) (rest ts p)) comma (go n) (s_depth n (said yes p) (λ k. go (suc k)) q (λ k. all (suc k))) (all n))))

  s_perform : (b : Span) (a : Act) (m : Machine) → Refused ts r m → Refused ts r (perform ts b a m).on
  unfolding perform
  s_perform b (silent_at ks) m h = s_peek m h
  s_perform b at_end m h = s_peek m h
  s_perform b (immediate k) m h = h
  s_perform b (immediate_next k) m h = h
  s_perform b (add_expected k) m h = s_expect k m h
  s_perform b bump m h = s_bump m h
  s_perform b (bump_name ks) m h = s_bump_name ks m h
  s_perform b bump_argument m h = s_argument (suc (length (rest ts m))) 0 m h
  s_perform b (emit n k) m h = s_emit n k unlabelled m h
  s_perform b emit_unclosed m h = s_emit E.unclosed_node E.no_hint b m h
  s_perform b (less l n) m h = h

  -- ---------------------------------------------------------------- programs

  pub s_closed : (k : Marker) (w : Walked) → Refused ts r w.on → Refused ts r (marked k w).on
  unfolding marked close
  s_closed k w h = by w.shape
    where
      by : (n : ℕ) → Refused ts r (close k n w.on)
      by zero = s_push PLACEHOLDER 0 w.on h
      by (suc n) = s_complete k (suc n) w.on h

  s_choose : (a : Ans) (n y z : Machine → Walked) → ((m : Machine) → Refused ts r m → Refused ts r (n m).on) → ((m : Machine) → Refused ts r m → Refused ts r (y m).on) → ((m : Machine) → Refused ts r m → Refused ts r (z m).on)
      → (m : Machine) → Refused ts r m → Refused ts r (choose a n y z m).on
  unfolding choose
  s_choose no n y z p q t m h = p m h
  s_choose yes n y z p q t m h = q m h
  s_choose also n y z p q t m h = t m h
  s_choose again n y z p q t m h = q m h

  pub s_iter : (n : ℕ) (f : Machine → Walked) → ((m : Machine) → Refused ts r m → Refused ts r (f m).on) → (m : Machine) → Refused ts r m → Refused ts r (iter ts n f m).on
  unfolding iter
  s_iter zero f k m h = h
  s_iter (suc n) f k m h = either (goes_on ts m (f m)) (iter ts n f (f m).on) (said (f m).ans (f m).on) (s_iter n f k (f m).on (k m h)) (k m h)

  shaped : (j : ℕ) (x y : Walked) → Refused ts r x.on → Refused ts r y.on → Refused ts r (by_shape j x y).on
  unfolding by_shape
  shaped zero x y f g = f
  shaped (suc j) x y f g = g

  s_turn_with : (n : ℕ) (f : Machine → Walked) → ((k : Marker) (m : Machine) → Refused ts r m → Refused ts r (links ts n f k m).on) → (k : Marker) (m : Machine) (w : Walked) → Refused ts r w.on → Refused ts r (turn ts n f k m w).on
  s_turn_with n f g k m w h =
      let x = link k w.shape w.on in
      let q : Refused ts r x = s_link k w.shape w.on h in
      let next = next_marker LINKED_START_NODE (complete k w.shape w.on) in
      let more = links ts n f next x in
      let last : Walked = said w.ans (push PLACEHOLDER 0 x) in
      shaped w.shape (said w.ans (push PLACEHOLDER 0 w.on)) (cond (goes_on ts m w) more last) (s_push PLACEHOLDER 0 w.on h)
      (either (goes_on ts m w) more last (g next x q) (s_push PLACEHOLDER 0 x q))

  pub s_links : (n : ℕ) (f : Machine → Walked) → ((m : Machine) → Refused ts r m → Refused ts r (f m).on) → (k : Marker) (m : Machine) → Refused ts r m → Refused ts r (links ts n f k m).on
  unfolding links
  s_links zero f g k m h = s_push PLACEHOLDER 0 m h
  s_links (suc n) f g k m h = s_turn_with n f (s_links n f g) k m (f m) (g m h)

  pub s_turn : (n : ℕ) (f : Machine → Walked) → ((m : Machine) → Refused ts r m → Refused ts r (f m).on) → (k : Marker) (m : Machine) (w : Walked) → Refused ts r w.on → Refused ts r (turn ts n f k m w).on
  s_turn n f g k m w h = s_turn_with n f (s_links n f g) k m w h

  pub s_chained : (f : Machine → Walked) → ((m : Machine) → Refused ts r m → Refused ts r (f m).on) → (k : Marker) (w : Walked) → Refused ts r w.on → Refused ts r (chained ts f k w).on
  unfolding chained
  s_chained f g k w h =
      either (is_again w.ans) (links ts (suc (length (rest ts w.on))) f k w.on) (said w.ans (push PLACEHOLDER 0 w.on))
      (s_links (suc (length (rest ts w.on))) f g k w.on h) (s_push PLACEHOLDER 0 w.on h)

  pub s_walk : (ask : Rule → Machine → Walked) → ((c : Rule) (m : Machine) → Refused ts r m → Refused ts r (ask c m).on) → (b : Span) (p : Prog) (m : Machine) → Refused ts r m → Refused ts r (walk ask ts b p m).on
  unfolding walk
  s_walk ask k b (ret j a) m h = h
  s_walk ask k b (act a) m h = s_perform b a m h
  s_walk ask k b (p ⨟ q) m h = s_walk ask k b q (walk ask ts b p m).on (s_walk ask k b p m h)
  s_walk ask k b (case c n y a) m h =
      s_choose (walk ask ts b c m).ans (walk ask ts b n) (walk ask ts b y) (walk ask ts b a) (s_walk ask k b n) (s_walk ask k b y) (s_walk ask k b a) (walk ask ts b c m).on (s_walk ask k b c m h)
  s_walk ask k b (in_marker p) m h = s_closed (next_marker START_NODE m) (walk ask ts b p (push PLACEHOLDER 0 m)) (s_walk ask k b p (push PLACEHOLDER 0 m) (s_push PLACEHOLDER 0 m h))
  s_walk ask k b (loop p) m h = s_iter (suc (length (rest ts m))) (walk ask ts b p) (s_walk ask k b p) m h
  s_walk ask k b (chain p q) m h =
      s_chained (walk ask ts b q) (s_walk ask k b q) (next_marker START_NODE m) (walk ask ts b p (push PLACEHOLDER 0 m)) (s_walk ask k b p (push PLACEHOLDER 0 m) (s_push PLACEHOLDER 0 m h))
  s_walk ask k b (brace p) m h = s_walk ask k (range_at (rest ts m) m) p m h
  s_walk ask k b (open_call c) m h = k c m h

  pub s_rule : (n : ℕ) (c : Rule) (m : Machine) → Refused ts r m → Refused ts r (walk_rule n ts c m).on
  unfolding walk_rule
  s_rule zero c m h = s_refuse TOO_DEEP m h
  s_rule (suc n) c m h = s_walk (walk_rule n ts) (s_rule n) unlabelled (grammar c) m h
