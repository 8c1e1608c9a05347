-- What a program does: parser/mod.rs, source.rs, marker.rs and errors.rs.
use Rattle.std.specs.Prelude.{ℕ, zero, suc, ◌-◌, Bool, true, false, cond, ◌&&◌, ◌||◌, List, [], ◌∷◌, ltb, eqb, length}
use Rattle.definitions.specs.NodeKind.{NO_NODE}
use Rattle.definitions.specs.TokenKind as K
use Rattle.definitions.specs.Errors as E
use Rattle.definitions.specs.Token.{Token, seen, trivia, drop_trivia, byte_count, past, ended, one_of, first_in}
use Rattle.definitions.specs.Skeleton.{Span, Label, no_label, label, Skeleton, done, token, name, node, ignored, report, over, ◌⧺◌}
use Rattle.definitions.specs.Prog.{Ans, no, yes, also, again, choose, Rule, Act, silent_at, at_end, immediate, immediate_next, add_expected, bump, bump_name, bump_argument, emit, emit_unclosed, less, Prog, ret, act, ◌⨟◌, case, in_marker, loop, chain, brace, open_call}
use Rattle.definitions.specs.Grammar.{grammar}
use Rattle.definitions.specs.Once.{pushed_once}

-- rest: the raw tokens from the cursor on. since: those after the last one taken (`prev_next_cursor`). pending:
-- `expected`.
pub record State : Type 0 where
  pub rest : List Token
  pub since : List Token
  pub pending : List ℕ

-- shape: what the marker around becomes, a node kind, or 0 for none
pub record Out : Type 0 where
  pub ans : Ans
  pub shape : ℕ
  pub made : Skeleton
  pub state : State

-- document 01's mark, from the end of the file
abbrev pub mark_of : State → ℕ
mark_of s = length s.since

-- ---------------------------------------------------------------- actions

-- peeking moves the cursor past trivia
unfoldable pub peeked : State → State
unfolding drop_trivia
peeked s = record { rest = drop_trivia s.rest; since = s.since; pending = s.pending }

abbrev pub truth : Bool → Ans
truth true = yes
truth false = no

-- an answer, and nothing else done
unfoldable pub replies : Ans → State → Out
replies a s = record { ans = a; shape = NO_NODE; made = done; state = s }

-- something made
unfoldable pub makes : Ans → Skeleton → State → Out
makes a p s = record { ans = a; shape = NO_NODE; made = p; state = s }

-- after a token or a name was taken: pending is cleared here and nowhere else
abbrev pub taken : List Token → State
taken ts = record { rest = ts; since = ts; pending = [] }

-- `bump`, with the tokens from the current one on. At the end the Rust panics; no program takes there.
unfoldable pub do_bump : State → List Token → Out
unfolding replies makes
do_bump s [] = replies yes s
do_bump s (t ∷ ts) = makes yes (token t (length ts) done) (taken ts)

-- a run of tokens of a set, and what follows it
pub record Stretch : Type 0 where
  pub raw : List Token
  pub after : List Token

unfoldable pub stretch_of : List ℕ → List Token → Stretch
unfolding seen one_of
stretch_of ks [] = record { raw = []; after = [] }
stretch_of ks (t ∷ ts) =
    let r = stretch_of ks ts in
    cond (one_of ks (seen t)) (record { raw = t ∷ r.raw; after = r.after }) (record { raw = []; after = t ∷ ts })

-- `bump_name_generic`: the caller has seen the first token, which the Rust asserts; no program takes a name at the end
unfoldable pub do_name : List ℕ → State → List Token → Out
unfolding replies makes stretch_of
do_name ks s [] = replies yes s
do_name ks s (t ∷ ts) = let r = stretch_of ks ts in makes yes (name (t ∷ r.raw) (length r.after) done) (taken r.after)

-- one run after another
unfoldable pub add : Out → Out → Out
unfolding ◌⧺◌
add o o' = record { ans = o'.ans; shape = o'.shape; made = o.made ⧺ o'.made; state = o'.state }

-- at depth 0, a; inside brackets, f at one depth less
unfoldable pub at_depth : ℕ → Out → (ℕ → Out) → Out
at_depth zero a f = a
at_depth (suc n) a f = f n

-- the rest of a macro argument, n brackets being open inside it; ts: the raw tokens from the cursor on. yes: it stops
-- at a comma outside these brackets. no: it stops at the right bracket of the argument list, or at the end.
unfoldable pub do_argument : ℕ → State → List Token → Out
unfolding replies makes add trivia at_depth
do_argument n s [] = replies no (record { rest = []; since = s.since; pending = s.pending })
do_argument n s (t ∷ ts) =
    let stay : Ans → Out = λ a. replies a (record { rest = t ∷ ts; since = s.since; pending = s.pending }) in
    let go : ℕ → Out = λ m. add (makes yes (token t (length ts) done) (taken ts)) (do_argument m (taken ts) ts) in
    let skip = do_argument n s ts in
    let deeper = go (suc n) in
    let bracket = at_depth n (stay no) go in
    let comma = at_depth n (stay yes) (λ m. go (suc m)) in
    let plain = go n in
    cond (trivia t) skip
    (cond (eqb t.kind K.LParen) deeper (cond (eqb t.kind K.RParen) bracket (cond (eqb t.kind K.Comma) comma plain)))

-- exactly [Semicolon], [Comma] or [Comma, Semicolon]
unfoldable pub only_separators : List ℕ → Bool
only_separators [] = false
only_separators (a ∷ []) = eqb a K.Semicolon || eqb a K.Comma
only_separators (a ∷ b ∷ []) = eqb a K.Comma && eqb b K.Semicolon
only_separators (a ∷ b ∷ c ∷ l) = false

-- `current_token_error_range`; ts: the tokens from the current one on. At the end it is the last token's final byte, or
-- 0..0.
unfoldable pub error_range : State → List Token → Span
unfolding only_separators byte_count
error_range s [] = record { from = 1; to = 0 }
error_range s (t ∷ ts) =
    let one_byte : Span = record { from = byte_count s.since; to = byte_count s.since - 1 } in
    let current : Span = record { from = byte_count (t ∷ ts); to = byte_count ts } in
    cond (only_separators s.pending) one_byte current

-- the pool holds the pending list for message 1, and nothing for any other
unfoldable pub pool_of : ℕ → List ℕ → List ℕ
pool_of m ks = cond (eqb m E.msg_expected) ks []

unfoldable pub do_emit : ℕ → ℕ → Label → State → Out
unfolding makes error_range pool_of
do_emit m h l s =
    makes yes
    (report (record {
      message = m;
      range = error_range s s.rest;
      mark = mark_of s;
      hint = h;
      labelled = l;
      pool = pool_of m s.pending;
    }) done)
    s

-- `add_expected`, each expectation once
unfoldable pub do_expected : ℕ → State → Out
unfolding replies pushed_once
do_expected k s = replies yes (record { rest = s.rest; since = s.since; pending = pushed_once k s.pending })

unfoldable pub perform : Label → Act → State → Out
unfolding peeked replies first_in do_expected do_bump do_name do_argument do_emit
perform b (silent_at ks) s = replies (truth (first_in ks (peeked s).rest)) (peeked s)
perform b at_end s = replies (truth (ended (peeked s).rest)) (peeked s)
perform b (immediate k) s = replies (truth (first_in (k ∷ []) s.rest)) s
perform b (immediate_next k) s = replies (truth (first_in (k ∷ []) (past s.rest))) s
perform b (add_expected k) s = do_expected k s
perform b bump s = do_bump (peeked s) (peeked s).rest
perform b (bump_name ks) s = do_name ks (peeked s) (peeked s).rest
perform b bump_argument s = do_argument 0 s s.rest
perform b (emit m h) s = do_emit m h no_label (peeked s)
perform b emit_unclosed s = do_emit E.unclosed_node E.no_hint b (peeked s)
perform b (less m n) s = replies (truth (ltb m n)) s

-- ---------------------------------------------------------------- programs

-- a marker pushed at mark m and completed or ignored at mark m'
unfoldable pub closed : ℕ → ℕ → ℕ → Skeleton → Skeleton → Skeleton
closed zero m m' a i = ignored m m' a i done
closed (suc k) m m' a i = node (suc k) m m' a i done

unfoldable pub marked : State → Out → Out
unfolding makes closed
marked s o = makes o.ans (closed o.shape (mark_of s) (mark_of o.state) done o.made) o.state

unfoldable pub is_again : Ans → Bool
is_again no = false
is_again yes = false
is_again also = false
is_again again = true

-- A loop goes on if it is told to and the cursor moved: o, after a turn from s. In the grammar each turn that answers
-- again has moved.
unfoldable pub goes_on : State → Out → Bool
unfolding is_again
goes_on s o = is_again o.ans && ltb (length o.state.rest) (length s.rest)

-- a loop of at most so many turns; a turn shapes no marker
unfoldable pub iter : ℕ → (State → Out) → State → Out
unfolding replies makes add goes_on
iter zero f s = replies again s
iter (suc n) f s =
    let o = f s in
    let turn = makes o.ans o.made o.state in
    let more = add turn (iter n f o.state) in
    cond (goes_on s o) more turn

-- A chain ends: its open marker, pushed at mark m, is ignored. a: the chain's node so far, which that marker precedes,
-- or nothing.
-- i: what was made since that marker. x: the answer.
unfoldable pub unlinked : ℕ → Skeleton → Skeleton → Ans → State → Out
unfolding makes closed
unlinked m a i x s = makes x (closed 0 m (mark_of s) a i) s

unfoldable pub by_shape : {A : Type 0} → ℕ → A → A → A
by_shape zero a b = a
by_shape (suc k) a b = b

-- at most so many links of a chain: each takes in what stands before it
unfoldable pub links : ℕ → (State → Out) → ℕ → Skeleton → Skeleton → State → Out
unfolding ◌⧺◌ closed unlinked goes_on by_shape
links zero f m a i s = unlinked m a i again s
links (suc n) f m a i s =
    let o = f s in
    let m' = mark_of o.state in
    let linked = closed o.shape m m' a (i ⧺ o.made) in
    let more = links n f m' linked done o.state in
    let last = unlinked m' linked done o.ans o.state in
    let on = cond (goes_on s o) more last in
    let off = unlinked m a (i ⧺ o.made) o.ans o.state in
    by_shape o.shape off on

unfoldable pub chained : (State → Out) → State → Out → Out
unfolding links unlinked is_again
chained f s o =
    let on = links (suc (length o.state.rest)) f (mark_of s) done o.made o.state in
    let off = unlinked (mark_of s) done o.made o.ans o.state in
    cond (is_again o.ans) on off

-- the token that stands at the cursor. The Rust expects one there, and there is: a node's body begins at its LCurly.
abbrev pub here : List Token → Label
unfolding byte_count
here ts = label (record { from = byte_count ts; to = byte_count (past ts) })

-- ask: what a call does. b: the brace around.
unfoldable pub exec : (Rule → State → Out) → Label → Prog → State → Out
unfolding perform replies add choose marked iter chained byte_count
exec ask b (ret k a) s = record { ans = a; shape = k; made = done; state = s }
exec ask b (act a) s = perform b a s
exec ask b (p ⨟ q) s = let o = exec ask b p s in add o (exec ask b q o.state)
exec ask b (case c n y a) s = let o = exec ask b c s in add o (choose o.ans (exec ask b n) (exec ask b y) (exec ask b a) o.state)
exec ask b (in_marker p) s = marked s (exec ask b p s)
exec ask b (loop p) s = iter (suc (length s.rest)) (exec ask b p) s
exec ask b (chain p q) s = chained (exec ask b q) s (exec ask b p s)
exec ask b (brace p) s = exec ask (here s.rest) p s
exec ask b (open_call r) s = ask r s

-- a rule, with so many more open calls allowed
unfoldable pub run : ℕ → Rule → State → Out
unfolding exec grammar makes
run zero r s = makes no (over (mark_of s) done) s
run (suc n) r s = exec (run n) no_label (grammar r) s
