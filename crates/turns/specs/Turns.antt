-- CLAUSES THAT NO RUN USES. The definitions must say what happens everywhere, so they have clauses for what the Rust
-- cannot come to.
-- Here: no run comes to them, with any entry and any list of tokens, up to refusal 5 where it meets it.
use Rattle.std.specs.Prelude.{ℕ, ◌<◌, ◌≡◌, true, false, List, [], ◌∷◌, length}
use Rattle.definitions.specs.TokenKind as K
use Rattle.definitions.specs.NodeKind as N
use Rattle.definitions.specs.Token.{Token, ended, first_in}
use Rattle.definitions.specs.Prog.{no, yes, Act, silent_at, at_end, immediate, immediate_next, add_expected, bump, bump_name, bump_argument, emit, emit_unclosed, less, Prog, ret, act, ◌⨟◌, case, in_marker, loop, chain, brace, open_call, propvalues}
use Rattle.definitions.specs.Check.{when◌then◌else◌, of_kind, assert_eat, expect_recoverable}
use Rattle.definitions.specs.Grammar.{Entry, ITEM_RECOVERY_SET, macro_invocation, dt_expr, dt_cell_list, dt_node_body}
use Rattle.definitions.specs.Run.{State, peeked, is_again}
use Rattle.run_steps.specs.Steps.{Step, begun, branched, turned, linked, spent, exceeded, EveryStep, entry_steps}

-- ---------------------------------------------------------------- 1. a turn that is to go on has moved

-- `Run.goes_on` asks two things: that the turn answers again, and that the cursor moved. The second never decides: the
-- Rust's loops have no such test. A link of a chain (`Run.links`) that answers again has also completed its marker. And
-- no loop or chain comes to its clause for zero turns left (`Run.iter`, `Run.links`).
abbrev pub Moves : Step → Type 0
Moves (begun p s) = Unit {0}
Moves (branched a) = Unit {0}
Moves (turned s o) = is_again o.ans ≡ true → length o.state.rest < length s.rest
Moves (linked s o) = is_again o.ans ≡ true → (length o.state.rest < length s.rest) × (0 < o.shape)
Moves spent = ⊥
Moves exceeded = Unit {0}

-- So no loop and no chain answers again, and `choose`, which reads again as yes, is not asked to.
abbrev pub Answers : Step → Type 0
Answers (begun p s) = Unit {0}
Answers (branched a) = is_again a ≡ false
Answers (turned s o) = Unit {0}
Answers (linked s o) = Unit {0}
Answers spent = Unit {0}
Answers exceeded = Unit {0}

-- ---------------------------------------------------------------- 2. a token is taken where one is

-- The first clauses of `Run.do_bump` and `Run.do_name` are for the end of input: there `bump` of the Rust panics.
-- `bump_name_generic` asserts besides that the first token is one of its set, and `Run.do_name` does not look at it.
abbrev pub Taking : Act → State → Type 0
Taking (silent_at ks) s = Unit {0}
Taking at_end s = Unit {0}
Taking (immediate k) s = Unit {0}
Taking (immediate_next k) s = Unit {0}
Taking (add_expected k) s = Unit {0}
Taking bump s = ended (peeked s).rest ≡ false
Taking (bump_name ks) s = first_in ks (peeked s).rest ≡ true
Taking bump_argument s = Unit {0}
Taking (emit m h) s = Unit {0}
Taking emit_unclosed s = Unit {0}
Taking (less m n) s = Unit {0}

abbrev pub TakingIn : Prog → State → Type 0
TakingIn (ret k a) s = Unit {0}
TakingIn (act a) s = Taking a s
TakingIn (p ⨟ q) s = Unit {0}
TakingIn (case c n y a) s = Unit {0}
TakingIn (in_marker p) s = Unit {0}
TakingIn (loop p) s = Unit {0}
TakingIn (chain p q) s = Unit {0}
TakingIn (brace p) s = Unit {0}
TakingIn (open_call r) s = Unit {0}

abbrev pub Takes : Step → Type 0
Takes (begun p s) = TakingIn p s
Takes (branched a) = Unit {0}
Takes (turned s o) = Unit {0}
Takes (linked s o) = Unit {0}
Takes spent = Unit {0}
Takes exceeded = Unit {0}

-- ---------------------------------------------------------------- 3. no `assert!` fails

-- what follows `assert!(p.eat(Equals))` in `dt_property`, with it
unfoldable pub assigned : Prog
unfolding expect_recoverable
assigned =
    assert_eat K.Equals
    ⨟ when in_marker (when open_call (propvalues true) then ret N.PropValueList yes else ret N.PropValueList no) then
    expect_recoverable (of_kind K.Semicolon) ITEM_RECOVERY_SET ⨟ ret N.DtProperty yes
    else ret N.ParseError yes

-- the token that a peek comes to is of this kind
abbrev pub Next : ℕ → State → Type 0
Next k s = first_in (k ∷ []) (peeked s).rest ≡ true

-- `Check.assert_eat k` takes a token and does not look at its kind. Each of the five programs that begin with it begins
-- before a token of that kind.
pub record Asserted (p : Prog) (s : State) : Type 0 where
  pub macro : p ≡ macro_invocation → Next K.Ident s
  pub bracket : p ≡ dt_expr → Next K.LParen s
  pub cells : p ≡ dt_cell_list → Next K.LAngle s
  pub value : p ≡ assigned → Next K.Equals s
  pub body : p ≡ dt_node_body → Next K.LCurly s

abbrev pub Asserts : Step → Type 0
Asserts (begun p s) = Asserted p s
Asserts (branched a) = Unit {0}
Asserts (turned s o) = Unit {0}
Asserts (linked s o) = Unit {0}
Asserts spent = Unit {0}
Asserts exceeded = Unit {0}

-- ---------------------------------------------------------------- the statement

pub record Turns : Type 0 where
  pub moves : (e : Entry) (ts : List Token) → EveryStep Moves (entry_steps e ts)
  pub answers : (e : Entry) (ts : List Token) → EveryStep Answers (entry_steps e ts)
  pub takes : (e : Entry) (ts : List Token) → EveryStep Takes (entry_steps e ts)
  pub asserts : (e : Entry) (ts : List Token) → EveryStep Asserts (entry_steps e ts)
