-- The parser as the literal machine of the crate `machine` sees it, and what the contracts of the grammar's functions say
-- of it before and after a call.
use Rattle.std.specs.Prelude.{ℕ, ◌-◌, ◌/◌, ◌≤◌, List, [], ◌∷◌, ◌≡◌, Option, Some, None, length, take, drop}
use Rattle.definitions.specs.Layout.{TOKEN_ROW}
use Rattle.definitions.specs.Errors as E
use Rattle.definitions.specs.NodeKind.{NO_NODE}
use Rattle.definitions.specs.Token.{Token, tokens_of}
use Rattle.definitions.specs.Skeleton.{Span}
use Rattle.definitions.specs.Prog.{Ans, no, yes, also, again, Rule, Prog}
use Rattle.definitions.specs.Check.{NAME_SET, LABEL_NAME_SET}
use Rattle.definitions.specs.Check as C
use Rattle.machine.specs.Machine.{Pending, Machine}
use Rattle.machine.specs.Machine as M
use Rattle.machine.specs.Walk.{Walked, said, walk, marked, unlabelled, walk_rule}
use Rattle.layout.specs.Numbers.{kind_number, hint_number}
use Rattle.layout.specs.declared.hint.Hint.{Hint}
use Rattle.parser.specs.declared.pending.Pending.{Pending as CodePending}
use Rattle.parser.specs.declared.Parser.{Parser}
use Rattle.parser.specs.declared.Ans.{Ans as CodeAns}
use Rattle.parser.specs.declared.Ans.TheVariants as A
use Rattle.parser.specs.declared.errors.Bump.{Bump}
use Rattle.parser.specs.declared.errors.Bump.TheVariants.{No, Yes, YesWrapErr}
use Rattle.parser.specs.declared.marker.Marker.{Marker}
use Rattle.parser.specs.declared.errors.TextRange.{TextRange}
use Rattle.parser.specs.declared.matcher.Matcher.{Matcher}
use Rattle.parser.specs.declared.matcher.Matcher.TheVariants as Of

-- the pending expectations
abbrev pub pending_of : CodePending → Pending
pending_of x = record { codes = take x.count x.codes; kinds = x.kinds; others = x.others }

-- with a code that arrives
abbrev pub with_arrived : ℕ → Pending → Pending
with_arrived k x = record { codes = M.arrived k x.codes; kinds = x.kinds; others = x.others }

abbrev pub view : Parser → Machine
view p =
    record {
      cursor = p.cursor.0;
      byte = p.byte.0;
      mark = p.mark.0;
      mark_byte = p.mark_byte.0;
      pending = pending_of p.pending;
      events = record { count = p.events_written; numbers = p.events.now };
      reports = record { count = p.reports_written; numbers = p.reports.now };
      pool = record { count = p.pool_written; numbers = p.pool.now };
      refusal = p.refused.number;
      place = p.refused.place.0;
    }

-- the tokens that it reads, and those from the cursor on
abbrev pub toks : Parser → List Token
toks p = tokens_of p.tokens.now

abbrev pub rest : Parser → List Token
rest p = drop p.cursor.0 (toks p)

-- rows not yet passed: the number that falls
unfoldable pub tokens_left : Parser → ℕ
tokens_left p = length p.tokens.now / TOKEN_ROW - p.cursor.0

-- a token is taken between p and q, where there is one
abbrev pub TakesOne : Parser → Parser → Type 0
TakesOne p q = tokens_left q ≤ tokens_left p - 1

abbrev pub ans_of : CodeAns → Ans
ans_of A.No = no
ans_of A.Yes = yes
ans_of A.Also = also
ans_of A.Again = again

-- the first of some tokens taken
unfoldable pub take_first : List Token → Machine → Machine
take_first [] m = m
take_first (t ∷ ts) m = M.took t m

abbrev pub marker_of : Marker → M.Marker
marker_of m = record { index = m.index; tag = m.tag }

abbrev pub span_of : TextRange → Span
span_of r = record { from = r.start.0; to = r.end.0 }

abbrev pub hint_of : Option Hint → ℕ
hint_of None = E.no_hint
hint_of (Some h) = hint_number h

-- the definitions' matcher
abbrev pub matcher_of : Matcher → C.Matcher
matcher_of (Of.Kind a) = C.of_kind (kind_number a)
matcher_of (Of.Either a b) = C.set (kind_number a ∷ kind_number b ∷ [])
matcher_of Of.Name = C.Name
matcher_of Of.LabelName = C.LabelName

-- the kinds that it matches
abbrev pub kinds_of : Matcher → List ℕ
kinds_of (Of.Kind a) = kind_number a ∷ []
kinds_of (Of.Either a b) = kind_number a ∷ kind_number b ∷ []
kinds_of Of.Name = NAME_SET
kinds_of Of.LabelName = LABEL_NAME_SET

-- the program of a report with what it takes
abbrev pub error_prog : Bump → ℕ → ℕ → Prog
error_prog No m h = C.error m h
error_prog Yes m h = C.error_bump m h
error_prog YesWrapErr m h = C.error_wrap m h

-- how many tokens it surely takes, where there are any
abbrev pub takes : Bump → ℕ
takes No = 0
takes Yes = 1
takes YesWrapErr = 1

-- ---------------------------------------------------------------- before a call and after it

-- q has the lent rows and buffers of p
pub record Same (p q : Parser) : Type 0 where
  pub tokens : q.tokens ≡ p.tokens
  pub events : q.events.ghost_name ≡ p.events.ghost_name
  pub reports : q.reports.ghost_name ≡ p.reports.ghost_name
  pub pool : q.pool.ghost_name ≡ p.pool.ghost_name

-- a step of the machine
pub record Becomes (f : Machine → Machine) (p q : Parser) : Type 0 where
  pub is : view q ≡ f (view p)
  pub same : Same p q
  pub left : tokens_left q ≤ tokens_left p

-- the marker that a function's caller made for it closed at the end, if there is one
abbrev pub closed_by : Option M.Marker → Walked → Walked
closed_by None w = w
closed_by (Some m) w = marked m w

-- a program walked from p, its calls answered by `ask`, its brace at b and its caller's marker closed, answers a, gives
-- the marker around it the shape k, and comes to q
pub record Way (ask : List Token → Rule → Machine → Walked) (b : Span) (e : Option M.Marker) (g : Prog) (p : Parser) (a : Ans) (k : ℕ) (q : Parser) : Type 0 where
  pub is : record { ans = a; shape = k; on = view q } ≡ closed_by e (walk (ask (toks p)) (toks p) b g (view p))
  pub same : Same p q
  pub left : tokens_left q ≤ tokens_left p

-- the same, where the code does not know the answer
pub record Lands (ask : List Token → Rule → Machine → Walked) (b : Span) (g : Prog) (p q : Parser) : Type 0 where
  pub is : view q ≡ (walk (ask (toks p)) (toks p) b g (view p)).on
  pub same : Same p q
  pub left : tokens_left q ≤ tokens_left p

-- ------------------------------------- what a contract says: whatever an open call does, and wherever the brace is

pub record Walks (g : Prog) (p : Parser) (a : Ans) (q : Parser) : Type 0 where
  pub way : (ask : List Token → Rule → Machine → Walked) (b : Span) → Way ask b None g p a NO_NODE q
  pub same : Same p q
  pub left : tokens_left q ≤ tokens_left p

pub record WalksOn (g : Prog) (p q : Parser) : Type 0 where
  pub way : (ask : List Token → Rule → Machine → Walked) (b : Span) → Lands ask b g p q
  pub same : Same p q
  pub left : tokens_left q ≤ tokens_left p

-- m, its caller's marker, closed
pub record Closes (m : Marker) (g : Prog) (p : Parser) (a : Ans) (q : Parser) : Type 0 where
  pub way : (ask : List Token → Rule → Machine → Walked) (b : Span) → Way ask b (Some (marker_of m)) g p a NO_NODE q
  pub same : Same p q
  pub left : tokens_left q ≤ tokens_left p

-- the same with the brace at a range
pub record ClosesAt (range : TextRange) (m : Marker) (g : Prog) (p : Parser) (a : Ans) (q : Parser) : Type 0 where
  pub way : (ask : List Token → Rule → Machine → Walked) → Way ask (span_of range) (Some (marker_of m)) g p a NO_NODE q
  pub same : Same p q
  pub left : tokens_left q ≤ tokens_left p

-- -------------------------------------------------------------------------------- with n open calls allowed

abbrev pub WalksWithin : ℕ → Prog → Parser → Ans → Parser → Type 0
WalksWithin n g p a q = Way (walk_rule n) unlabelled None g p a NO_NODE q

abbrev pub WalksWithinOn : ℕ → Prog → Parser → Parser → Type 0
WalksWithinOn n g p q = Lands (walk_rule n) unlabelled g p q

abbrev pub ClosesWithin : ℕ → Marker → Prog → Parser → Ans → Parser → Type 0
ClosesWithin n m g p a q = Way (walk_rule n) unlabelled (Some (marker_of m)) g p a NO_NODE q

-- a rule that opens a call
pub record OpensWithin (n : ℕ) (r : Rule) (p : Parser) (a : Ans) (q : Parser) : Type 0 where
  pub is : said a (view q) ≡ walk_rule n (toks p) r (view p)
  pub same : Same p q
  pub left : tokens_left q ≤ tokens_left p

pub record OpensWithinOn (n : ℕ) (r : Rule) (p q : Parser) : Type 0 where
  pub is : view q ≡ (walk_rule n (toks p) r (view p)).on
  pub same : Same p q
  pub left : tokens_left q ≤ tokens_left p
