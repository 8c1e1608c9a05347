-- parser/mod.rs and errors.rs as programs: the forms that the grammar is made of, `TokenMatcher`, `Check` and
-- `ErrorBuilder`.
use Rattle.std.specs.Prelude.{ℕ, List, [], ◌∷◌}
use Rattle.definitions.specs.Prog.{Ans, no, yes, again, silent_at, at_end, add_expected, bump, bump_name, emit, Prog, ret, act, ◌⨟◌, case, in_marker}
use Rattle.definitions.specs.TokenKind as K
use Rattle.definitions.specs.NodeKind as N
use Rattle.definitions.specs.Errors as E

-- ---------------------------------------------------------------- control

abbrev pub tell : Ans → Prog
tell a = ret N.NO_NODE a

-- `else` and `⨟` bind alike and to the right: what follows `else`, sequences and further branches included, belongs to
-- it up to the bracket that closes around the whole. A branch inside `then`, and one that something follows, stands in
-- brackets.
infixr 20 when◌then◌else◌
abbrev pub when◌then◌else◌ : Prog → Prog → Prog → Prog
when c then p else q = case c q p p

infixr 25 ◌and◌
abbrev pub ◌and◌ : Prog → Prog → Prog
p and q = when p then q else tell no

infixr 24 ◌or◌
abbrev pub ◌or◌ : Prog → Prog → Prog
p or q = when p then tell yes else q

abbrev pub not! : Prog → Prog
not! p = when p then tell no else tell yes

-- one turn of `while c { p }`
infixr 20 while◌run◌
abbrev pub while◌run◌ : Prog → Prog → Prog
while c run p = when c then p ⨟ tell again else tell yes

-- `let m = p.start(); p; m.complete(k)`
abbrev pub in_node : ℕ → Prog → Prog
in_node k p = in_marker (p ⨟ ret k yes)

abbrev pub end? : Prog
end? = act at_end

abbrev pub bump! : Prog
bump! = act bump

abbrev pub expected : ℕ → Prog
expected k = act (add_expected k)

-- ---------------------------------------------------------------- errors.rs: `ErrorBuilder::emit`

-- message and hint, `Bump::No`
abbrev pub error : ℕ → ℕ → Prog
error m h = act (emit m h)

-- `Bump::Yes`: a token is taken if not at the end
abbrev pub error_bump : ℕ → ℕ → Prog
error_bump m h = error m h ⨟ when end? then tell yes else bump!

-- `Bump::YesWrapErr`: the token taken lies in a ParseError
abbrev pub error_wrap : ℕ → ℕ → Prog
error_wrap m h = error m h ⨟ when end? then tell yes else in_node N.ParseError bump!

-- `p.error().msg_expected()` without a hint, in the three ways
abbrev pub error! : Prog
error! = error E.msg_expected E.no_hint

abbrev pub error_bump! : Prog
error_bump! = error_bump E.msg_expected E.no_hint

abbrev pub error_wrap! : Prog
error_wrap! = error_wrap E.msg_expected E.no_hint

-- ---------------------------------------------------------------- `TokenMatcher`

pub record Matcher : Type 0 where
  pub matches : Prog
  pub push_expected : Prog
  pub consume : Prog

abbrev pub push_all : List ℕ → Prog
push_all [] = tell yes
push_all (k ∷ ks) = expected k ⨟ push_all ks

abbrev pub set : List ℕ → Matcher
set ks = record { matches = act (silent_at ks); push_expected = push_all ks; consume = bump! }

abbrev pub of_kind : ℕ → Matcher
of_kind k = record { matches = act (silent_at (k ∷ [])); push_expected = expected k; consume = bump! }

abbrev pub NAME_SET : List ℕ
NAME_SET = K.Ident ∷ K.Number ∷ K.Comma ∷ K.Minus ∷ []

abbrev pub LABEL_NAME_SET : List ℕ
LABEL_NAME_SET = K.Ident ∷ K.Number ∷ []

abbrev pub Name : Matcher
Name = record { matches = act (silent_at NAME_SET); push_expected = expected K.Name; consume = act (bump_name NAME_SET) }

abbrev pub LabelName : Matcher
LabelName =
    record {
      matches = act (silent_at LABEL_NAME_SET);
      push_expected = expected E.LabelName;
      consume = act (bump_name LABEL_NAME_SET);
    }

-- ---------------------------------------------------------------- `Check`

-- `.silent().at()`
unfoldable pub silent : Matcher → Prog
silent m = m.matches

unfoldable pub at : Matcher → Prog
at m = m.push_expected ⨟ m.matches

-- `.silent().eat()`
unfoldable pub silent_eat : Matcher → Prog
silent_eat m = when m.matches then m.consume ⨟ tell yes else tell no

unfoldable pub eat : Matcher → Prog
eat m = when m.matches then m.consume ⨟ tell yes else m.push_expected ⨟ tell no

-- `assert!(p.eat(k))`: the caller has seen the token, so the Rust's assertion holds and this is a plain take
abbrev pub assert_eat : ℕ → Prog
assert_eat k = bump!

unfoldable pub expect : Matcher → Prog
unfolding eat
expect m = when eat m then tell yes else error! ⨟ tell no

unfoldable pub expect_recoverable : Matcher → List ℕ → Prog
unfolding eat
expect_recoverable m recovery = when eat m then tell yes else (when act (silent_at recovery) then error! else error_wrap!) ⨟ tell no

-- `if let Some(m) = p.eat_starting(M) { inside } else { rest }`: the marker is made only on a match, and `inside` says
-- what it becomes
infixr 20 eat_starting◌inside◌else◌
unfoldable pub eat_starting◌inside◌else◌ : Matcher → Prog → Prog → Prog
unfolding at
eat_starting m inside p else q = when at m then in_marker (m.consume ⨟ p) else q
