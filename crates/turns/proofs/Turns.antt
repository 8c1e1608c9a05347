-- The statement of specs/Turns.antt, from what crate facts shows of each step.
use Prim.Native.Nat.{ℕ}
use mathlib.Core.Path.{◌≡◌, subst}
use mathlib.Core.Bool.{true}
use mathlib.Core.List.{[], ◌∷◌}
use Rattle.definitions.specs.TokenKind as K
use Rattle.definitions.specs.Prog.{Act, silent_at, at_end, immediate, immediate_next, add_expected, bump, bump_name, bump_argument, emit, emit_unclosed, less, Prog, ret, act, ◌⨟◌, case, in_marker, loop, chain, brace, open_call}
use Rattle.definitions.specs.Grammar.{macro_invocation, dt_expr, dt_cell_list, dt_node_body}
use Rattle.definitions.specs.Run.{State, peeked}
use Rattle.run_steps.specs.Steps.{Step, begun, branched, turned, linked, spent, exceeded, entry_steps}
use Rattle.facts.proofs.Known.{some}
use Rattle.facts.proofs.Facts.{Fact}
use Rattle.facts.proofs.May.{asserts, may_begin, needs}
use Rattle.facts.proofs.Good.{Begun, Good}
use Rattle.facts.proofs.Given.{bump_there, name_there, next_there, each_by}
use Rattle.facts.proofs.Sound.{entry_good}
use Rattle.turns.specs.Turns.{Moves, Answers, Taking, TakingIn, Takes, assigned, Next, Asserted, Asserts, Turns}

-- ---------------------------------------------------------------- of one step

moves_good : (x : Step) → Good x → Moves x
moves_good (begun p s) g = tt
moves_good (branched a) g = tt
moves_good (turned s o) g = g
moves_good (linked s o) g = g
moves_good spent g = g
moves_good exceeded g = tt

answers_good : (x : Step) → Good x → Answers x
answers_good (begun p s) g = tt
answers_good (branched a) g = g
answers_good (turned s o) g = tt
answers_good (linked s o) g = tt
answers_good spent g = tt
answers_good exceeded g = tt

act_taking : (a : Act) (s : State) → Begun (act a) s → Taking a s
unfolding peeked
act_taking (silent_at ks) s g = tt
act_taking at_end s g = tt
act_taking (immediate k) s g = tt
act_taking (immediate_next k) s g = tt
act_taking (add_expected k) s g = tt
act_taking bump s g = bump_there s g
act_taking (bump_name ks) s g = name_there ks s g
act_taking bump_argument s g = tt
act_taking (emit m h) s g = tt
act_taking emit_unclosed s g = tt
act_taking (less m n) s g = tt

taking_good : (p : Prog) (s : State) → Begun p s → TakingIn p s
taking_good (ret k a) s g = tt
taking_good (act a) s g = act_taking a s g
taking_good (p ⨟ q) s g = tt
taking_good (case c n y a) s g = tt
taking_good (in_marker p) s g = tt
taking_good (loop p) s g = tt
taking_good (chain p q) s g = tt
taking_good (brace p) s g = tt
taking_good (open_call r) s g = tt

takes_good : (x : Step) → Good x → Takes x
takes_good (begun p s) g = taking_good p s g
takes_good (branched a) g = tt
takes_good (turned s o) g = tt
takes_good (linked s o) g = tt
takes_good spent g = tt
takes_good exceeded g = tt

-- a program q that asks for a token of kind k
asked_for : (k : ℕ) (q : Prog) → ((d : Fact) → may_begin q d ≡ true → asserts (some (k ∷ [])) d ≡ true) → (p : Prog) (s : State) → Begun p s → p ≡ q → Next k s
unfolding peeked
asked_for k q a p s g e = next_there (k ∷ []) q s a (subst (λ (x : Prog). Begun x s) e g)

asserted_good : (p : Prog) (s : State) → Begun p s → Asserted p s
asserted_good p s g =
    record {
      macro = asked_for K.Ident macro_invocation (λ d m. unfold may_begin needs macro_invocation in m) p s g;
      bracket = asked_for K.LParen dt_expr (λ d m. unfold may_begin needs dt_expr in m) p s g;
      cells = asked_for K.LAngle dt_cell_list (λ d m. unfold may_begin needs dt_cell_list in m) p s g;
      value = asked_for K.Equals assigned (λ d m. unfold may_begin needs assigned in m) p s g;
      body = asked_for K.LCurly dt_node_body (λ d m. unfold may_begin needs dt_node_body in m) p s g;
    }

asserts_good : (x : Step) → Good x → Asserts x
asserts_good (begun p s) g = asserted_good p s g
asserts_good (branched a) g = tt
asserts_good (turned s o) g = tt
asserts_good (linked s o) g = tt
asserts_good spent g = tt
asserts_good exceeded g = tt

-- ---------------------------------------------------------------- the statement

pub turns : Turns
turns =
    record {
      moves = λ e ts. each_by Good Moves moves_good (entry_steps e ts) (entry_good e ts);
      answers = λ e ts. each_by Good Answers answers_good (entry_steps e ts) (entry_good e ts);
      takes = λ e ts. each_by Good Takes takes_good (entry_steps e ts) (entry_good e ts);
      asserts = λ e ts. each_by Good Asserts asserts_good (entry_steps e ts) (entry_good e ts);
    }
