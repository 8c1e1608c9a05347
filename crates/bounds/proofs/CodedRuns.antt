-- Every node kind, message and hint that a run makes is below 256, since the grammar names no other.
use Prim.Native.Nat.{ℕ, zero, suc, ◌<◌}
use native.Mathlib.Omega.{arith}
use mathlib.Core.Path.{◌≡◌, subst}
use mathlib.Core.Bool.{true}
use mathlib.Core.List.{List, [], ◌∷◌}
use lib.Dec.{ltb, eqb}
use lib.ListN.{length}
use borrow.Author.Tests.{ltb-true}
use Rattle.definitions.specs.Layout.{MOST_OPEN_CALLS}
use Rattle.definitions.specs.TokenKind as K
use Rattle.definitions.specs.Errors as E
use Rattle.definitions.specs.Token.{Token, trivia}
use Rattle.definitions.specs.Prog.{Ans, no, yes, Rule, Act, silent_at, at_end, immediate, immediate_next, add_expected, bump, bump_name, bump_argument, emit, emit_unclosed, less, Prog}
use Rattle.definitions.specs.Grammar.{grammar, Entry, whole}
use Rattle.definitions.specs.Skeleton.{Label, no_label, done, token, ◌⧺◌}
use Rattle.definitions.specs.Run.{State, Out, mark_of, peeked, replies, makes, taken, do_bump, do_name, add, at_depth, do_argument, do_emit, do_expected, perform, closed, marked, unlinked, exec, run}
use Rattle.definitions.specs.Call.{run_entry}
use Rattle.laws.proofs.Engine.{Composes, exec_only}
use Rattle.basics.proofs.Tests.{cond-all, and_left, and_right}
use Rattle.bounds.proofs.Codes.{CODES, small_kind, small_act, small, grammar_small, whole_small, Coded, coded_join, coded_closed}

pub record MakesCodes (o : Out) : Type 0 where
  pub shape : o.shape < CODES
  pub made : Coded o.made

abbrev Q : State → Out → Type 0
Q s o = MakesCodes o

quiet : (a : Ans) (u : State) → MakesCodes (replies a u)
unfolding replies Coded
quiet a u = record { shape = omega arith; made = tt }

add_codes : (o o' : Out) → MakesCodes o → MakesCodes o' → MakesCodes (add o o')
unfolding add
add_codes o o' p q = record { shape = q.shape; made = coded_join o.made o'.made p.made q.made }

token_codes : (t : Token) (ts : List Token) → MakesCodes (makes yes (token t (length ts) done) (taken ts))
unfolding makes Coded
token_codes t ts = record { shape = omega arith; made = tt }

bump_codes : (s : State) (l : List Token) → MakesCodes (do_bump s l)
unfolding do_bump
bump_codes s [] = quiet yes s
bump_codes s (t ∷ ts) = token_codes t ts

name_codes : (ks : List ℕ) (s : State) (l : List Token) → MakesCodes (do_name ks s l)
unfolding do_name makes Coded
name_codes ks s [] = quiet yes s
name_codes ks s (t ∷ ts) = record { shape = omega arith; made = tt }

depth_codes : (n : ℕ) (o : Out) (f : ℕ → Out) → MakesCodes o → ((m : ℕ) → MakesCodes (f m)) → MakesCodes (at_depth n o f)
unfolding at_depth
depth_codes zero o f p q = p
depth_codes (suc n) o f p q = q n

argument_codes : (n : ℕ) (s : State) (ts : List Token) → MakesCodes (do_argument n s ts)
unfolding do_argument
argument_codes n s [] = quiet no _
argument_codes n s (t ∷ ts) =
    let go : (m : ℕ) → MakesCodes (add (makes yes (token t (length ts) done) (taken ts)) (do_argument m (taken ts) ts)) = λ m. add_codes (makes yes (token t (length ts) done) (taken ts)) _ (token_codes t ts) (argument_codes m (taken ts) ts) in
    cond-all MakesCodes (trivia t) (argument_codes n s ts)
    (cond-all MakesCodes (eqb t.kind K.LParen) (go (suc n))
    (cond-all MakesCodes (eqb t.kind K.RParen) (depth_codes n _ _ (quiet no _) go)
    (cond-all MakesCodes (eqb t.kind K.Comma) (depth_codes n _ _ (quiet yes _) (λ m. go (suc m))) (go n))))

emit_codes : (m h : ℕ) (l : Label) (s : State) → m < CODES → h < CODES → MakesCodes (do_emit m h l s)
unfolding do_emit makes Coded
emit_codes m h l s p q = record { shape = omega arith; made = (record { message = p; hint = q }, tt) }

act_codes : (b : Label) (a : Act) → small_act a ≡ true → (s : State) → MakesCodes (perform b a s)
unfolding perform small_act do_expected
act_codes b (silent_at ks) e s = quiet _ _
act_codes b at_end e s = quiet _ _
act_codes b (immediate k) e s = quiet _ _
act_codes b (immediate_next k) e s = quiet _ _
act_codes b (add_expected k) e s = quiet _ _
act_codes b bump e s = bump_codes (peeked s) (peeked s).rest
act_codes b (bump_name ks) e s = name_codes ks (peeked s) (peeked s).rest
act_codes b bump_argument e s = argument_codes 0 s s.rest
act_codes b (emit m h) e s = emit_codes m h no_label (peeked s) (ltb-true _ _ (and_left (ltb m CODES) _ e)) (ltb-true _ _ (and_right (ltb m CODES) _ e))
act_codes b emit_unclosed e s = emit_codes E.unclosed_node E.no_hint b (peeked s) (omega arith) (omega arith)
act_codes b (less m n) e s = quiet _ _

-- ---------------------------------------------------------------- loops, chains, programs

composed : Composes Q (λ s m a i u. Coded a × Coded i)
unfolding marked makes unlinked replies Coded closed
composed =
    record {
      idle = quiet;
      add = λ s o o' p q. add_codes o o' p q;
      mark = λ s o p. record { shape = omega arith; made = coded_closed o.shape _ _ done o.made p.shape tt p.made };
      turn = λ s o p. record { shape = omega arith; made = p.made };
      first = λ s o p. (tt, p.made);
      more = λ s u m a i o c p. (c.0, coded_join i o.made c.1 p.made);
      link = λ s u m k a i o b q e c. (coded_closed (suc k) m (mark_of o.state) a (i ⧺ o.made) (subst (λ (j : ℕ). j < CODES) e q.shape) c.0 c.1, tt);
      last = λ s u m a i x c. record { shape = omega arith; made = coded_closed 0 m (mark_of u) a i (omega arith) c.0 c.1 };
    }

rets : (k : ℕ) (a : Ans) (s : State) → ltb k CODES ≡ true → Q s (record { ans = a; shape = k; made = done; state = s })
unfolding Coded
rets k a s e = record { shape = ltb-true _ _ e; made = tt }

exec_codes : (ask : Rule → State → Out) → ((r : Rule) (s : State) → MakesCodes (ask r s)) → (p : Prog) → small p ≡ true → (b : Label) (s : State) → MakesCodes (exec ask b p s)
unfolding small
exec_codes ask A p e b s = exec_only Q _ composed small_kind small_act rets act_codes ask A b p s e

run_codes : (n : ℕ) (r : Rule) (s : State) → MakesCodes (run n r s)
unfolding run makes Coded
run_codes zero r s = record { shape = omega arith; made = tt }
run_codes (suc n) r s = exec_codes (run n) (run_codes n) (grammar r) (grammar_small r) no_label s

-- EVERY NODE KIND, MESSAGE AND HINT of an entry's run is below 256
pub entry_coded : (e : Entry) (ts : List Token) → Coded (run_entry e ts)
unfolding run_entry
entry_coded e ts = (exec_codes (run MOST_OPEN_CALLS) (run_codes MOST_OPEN_CALLS) (whole e) (whole_small e) no_label (taken ts)).made
