-- The machine's interpreter: the same programs as `exec` and `run` of `definitions`, over the machine.
use Rattle.std.specs.Prelude.{ℕ, zero, suc, Bool, cond, ◌&&◌, List, [], ◌∷◌, ltb, length}
use Rattle.definitions.specs.NodeKind.{NO_NODE}
use Rattle.definitions.specs.Layout.{PLACEHOLDER, START_NODE, LINKED_START_NODE, TOO_DEEP}
use Rattle.definitions.specs.TokenKind as K
use Rattle.definitions.specs.Errors as E
use Rattle.definitions.specs.Token.{Token, past, ended, first_in}
use Rattle.definitions.specs.Skeleton.{Span}
use Rattle.definitions.specs.Prog.{Ans, no, yes, again, choose, Rule, Act, silent_at, at_end, immediate, immediate_next, add_expected, bump, bump_name, bump_argument, emit, emit_unclosed, less, Prog, ret, act, ◌⨟◌, case, in_marker, loop, chain, brace, open_call}
use Rattle.definitions.specs.Grammar.{grammar}
use Rattle.definitions.specs.Run.{truth, is_again, by_shape}
use Rattle.machine.specs.Machine.{Machine, Marker, rest, peek, range_at, refuse, expect_code, push, complete, precede}
use Rattle.machine.specs.Machine as M

-- what a walk answers, the shape of the marker around it, and the machine after it
pub record Walked : Type 0 where
  pub ans : Ans
  pub shape : ℕ
  pub on : Machine

abbrev pub said : Ans → Machine → Walked
said a m = record { ans = a; shape = NO_NODE; on = m }

-- ---------------------------------------------------------------- actions

-- outside all brackets w; inside, f at one depth less
abbrev pub at_depth : ℕ → Walked → (ℕ → Walked) → Walked
at_depth zero w f = w
at_depth (suc n) w f = f n

-- the rest of a macro argument, in so many open brackets: at most so many tokens
unfoldable pub argument : ℕ → List Token → ℕ → Machine → Walked
unfolding peek M.bump
argument zero ts n m = said no m
argument (suc f) ts n m =
    let p = peek ts m in
    let go : ℕ → Walked = λ k. argument f ts k (M.bump ts p) in
    let deeper = go (suc n) in
    let bracket = at_depth n (said no p) go in
    let comma = at_depth n (said yes p) (λ k. go (suc k)) in
    let plain = go n in
    cond (ended (rest ts p)) (said no p)
    (cond (first_in (K.LParen ∷ []) (rest ts p)) deeper
    (cond (first_in (K.RParen ∷ []) (rest ts p)) bracket (cond (first_in (K.Comma ∷ []) (rest ts p)) comma plain)))

-- no label: 0, 0
abbrev pub unlabelled : Span
unlabelled = record { from = 0; to = 0 }

unfoldable pub perform : List Token → Span → Act → Machine → Walked
unfolding peek first_in expect_code M.bump M.bump_name argument M.emit
perform ts b (silent_at ks) m = let p = peek ts m in said (truth (first_in ks (rest ts p))) p
perform ts b at_end m = let p = peek ts m in said (truth (ended (rest ts p))) p
perform ts b (immediate k) m = said (truth (first_in (k ∷ []) (rest ts m))) m
perform ts b (immediate_next k) m = said (truth (first_in (k ∷ []) (past (rest ts m)))) m
perform ts b (add_expected k) m = said yes (expect_code k m)
perform ts b bump m = said yes (M.bump ts m)
perform ts b (bump_name ks) m = said yes (M.bump_name ks ts m)
perform ts b bump_argument m = argument (suc (length (rest ts m))) ts 0 m
perform ts b (emit n h) m = said yes (M.emit ts n h unlabelled m)
perform ts b emit_unclosed m = said yes (M.emit ts E.unclosed_node E.no_hint b m)
perform ts b (less l n) m = said (truth (ltb l n)) m

-- ---------------------------------------------------------------- programs

-- the marker that is pushed next
abbrev pub next_marker : ℕ → Machine → Marker
next_marker tag m = record { index = m.events.count; tag = tag }

-- completed as a node of that kind, or ignored
unfoldable pub close : Marker → ℕ → Machine → Machine
unfolding push complete
close k zero m = push PLACEHOLDER 0 m
close k (suc n) m = complete k (suc n) m

unfoldable pub marked : Marker → Walked → Walked
unfolding close
marked k w = said w.ans (close k w.shape w.on)

unfoldable pub goes_on : List Token → Machine → Walked → Bool
unfolding is_again
goes_on ts m w = is_again w.ans && ltb (length (rest ts w.on)) (length (rest ts m))

unfoldable pub iter : List Token → ℕ → (Machine → Walked) → Machine → Walked
unfolding goes_on
iter ts zero f m = said again m
iter ts (suc n) f m =
    let w = f m in
    let more = iter ts n f w.on in
    cond (goes_on ts m w) more (said w.ans w.on)

-- complete, then precede
unfoldable pub link : Marker → ℕ → Machine → Machine
unfolding complete precede
link k kind m = precede k (complete k kind m)

unfoldable pub links : List Token → ℕ → (Machine → Walked) → Marker → Machine → Walked
unfolding push goes_on link by_shape complete
links ts zero f k m = said again (push PLACEHOLDER 0 m)
links ts (suc n) f k m =
    let w = f m in
    let x = link k w.shape w.on in
    let more = links ts n f (next_marker LINKED_START_NODE (complete k w.shape w.on)) x in
    let last = said w.ans (push PLACEHOLDER 0 x) in
    let on = cond (goes_on ts m w) more last in
    let off = said w.ans (push PLACEHOLDER 0 w.on) in
    by_shape w.shape off on

unfoldable pub chained : List Token → (Machine → Walked) → Marker → Walked → Walked
unfolding links push is_again
chained ts f k w =
    let on = links ts (suc (length (rest ts w.on))) f k w.on in
    let off = said w.ans (push PLACEHOLDER 0 w.on) in
    cond (is_again w.ans) on off

unfoldable pub walk : (Rule → Machine → Walked) → List Token → Span → Prog → Machine → Walked
unfolding perform choose push marked iter chained range_at
walk ask ts b (ret k a) m = record { ans = a; shape = k; on = m }
walk ask ts b (act a) m = perform ts b a m
walk ask ts b (p ⨟ q) m = walk ask ts b q (walk ask ts b p m).on
walk ask ts b (case c n y a) m = let w = walk ask ts b c m in choose w.ans (walk ask ts b n) (walk ask ts b y) (walk ask ts b a) w.on
walk ask ts b (in_marker p) m = marked (next_marker START_NODE m) (walk ask ts b p (push PLACEHOLDER 0 m))
walk ask ts b (loop p) m = iter ts (suc (length (rest ts m))) (walk ask ts b p) m
walk ask ts b (chain p q) m = chained ts (walk ask ts b q) (next_marker START_NODE m) (walk ask ts b p (push PLACEHOLDER 0 m))
walk ask ts b (brace p) m = walk ask ts (range_at (rest ts m) m) p m
walk ask ts b (open_call r) m = ask r m

-- a rule, with so many more open calls allowed
unfoldable pub walk_rule : ℕ → List Token → Rule → Machine → Walked
unfolding walk grammar refuse
walk_rule zero ts r m = said no (refuse TOO_DEEP m)
walk_rule (suc n) ts r m = walk (walk_rule n ts) ts unlabelled (grammar r) m

-- a program, with so many more open calls allowed
unfoldable pub walk_prog : ℕ → List Token → Span → Prog → Machine → Walked
unfolding walk walk_rule
walk_prog n ts b p m = walk (walk_rule n ts) ts b p m
