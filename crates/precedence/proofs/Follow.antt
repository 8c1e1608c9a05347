-- What it means that a run does what the reader does: it makes the same tree without a report, or it reports where the
-- reader does.
use Prim.Native.Nat.{ℕ, suc}
use mathlib.Core.Path.{◌≡◌, refl, ◌∙◌, ap, subst}
use mathlib.Core.Bool.{Bool, true, false, false≢true}
use mathlib.Core.List.{List, [], ◌∷◌}
use lib.Dec.{eqb}
use lib.ListN.{length}
use Rattle.definitions.specs.TokenKind as K
use Rattle.definitions.specs.Token.{Token, seen, drop_trivia, one_of, first_in}
use Rattle.definitions.specs.Prog.{no, yes, Rule, emit, Prog, ret, act, ◌⨟◌}
use Rattle.definitions.specs.Check.{of_kind, expect, eat}
use Rattle.definitions.specs.Skeleton.{Label, Report, Skeleton, done, token, ◌⧺◌}
use Rattle.definitions.specs.Run.{State, Out, peeked, makes, taken, add, do_emit, perform, closed, exec}
use Rattle.definitions.specs.Report.{pushes}
use Rattle.definitions.specs.C.{Symbol, symbols, Expr}
use Rattle.definitions.specs.C as C
use Rattle.laws.proofs.Kept.{Stands, stands_taken}
use Rattle.precedence.specs.Nodes.{one, nodes}
use Rattle.precedence.proofs.Pratt.{is, Res, refused, spent, expect_if}
use Rattle.precedence.proofs.Pratt as P
use Rattle.precedence.proofs.Pushed.{Quiet, quiet_join, quiet_closed, Reported, here, reported_first, reported_second, reported_inside}
use Rattle.precedence.proofs.Same.{Same, same_join, same_one, same_node}
use Rattle.precedence.proofs.Symbols.{test_one, symbols_end, symbols_next, symbols_past, Tail, tail_refl, tail_trans, tail_next}
use Rattle.precedence.proofs.Rules.{took, Ends, ends_map, branch, ends_ret, Tests, test_seq, test_case, on_test, silent_is, test_expected, test_tell, after_bump}

-- p was made from s to u without a report, up to trivia and marks, and vs is left
pub record Done (s : State) (p : Skeleton) (vs : List Symbol) (made : Skeleton) (u : State) : Type 0 where
  pub same : Same made p
  pub quiet : Quiet (pushes made)
  pub stands : Stands u
  pub left : symbols false u.since ≡ vs
  pub tail : Tail u.since s.since

-- a report was made where vs was left
pub record Noted (s : State) (vs : List Symbol) (made : Skeleton) : Type 0 where
  pub rep : Report
  pub among : Reported rep (pushes made)
  pub raw : List Token
  pub mark_is : rep.mark ≡ length raw
  pub left : symbols false raw ≡ vs
  pub tail : Tail raw s.since

-- the run does what the reader does; shape: what it makes of an expression
abbrev pub Follows : State → (Expr → Skeleton) → Res → Out → Type 0
Follows s shape (P.done e vs) o = (o.ans ≡ yes) × Done s (shape e) vs o.made o.state
Follows s shape (P.report vs) o = Noted s vs o.made
Follows s shape refused o = ⊥
Follows s shape spent o = Unit {0}

-- ---------------------------------------------------------------- joining

pub done_join : (s t u : State) (p q : Skeleton) (vs ws : List Symbol) (m m' : Skeleton) → Done s p vs m t → Done t q ws m' u → Done s (p ⧺ q) ws (m ⧺ m') u
done_join s t u p q vs ws m m' a b =
    record {
      same = same_join m m' p q a.same b.same;
      quiet = quiet_join m m' a.quiet b.quiet;
      stands = b.stands;
      left = b.left;
      tail = tail_trans u.since t.since s.since b.tail a.tail;
    }

pub done_closed : (k m m' : ℕ) (s u : State) (p : Skeleton) (vs : List Symbol) (made : Skeleton) → Done s p vs made u
    → Done s (nodes (suc k) p) vs (closed (suc k) m m' done made) u
unfolding closed ◌⧺◌ pushes
done_closed k m m' s u p vs made d =
    record {
      same = same_node (suc k) m m' done made p d.same;
      quiet = quiet_closed (suc k) m m' done made tt d.quiet;
      stands = d.stands;
      left = d.left;
      tail = d.tail;
    }

-- from an earlier state
pub done_from : (s s' u : State) (p : Skeleton) (vs : List Symbol) (made : Skeleton) → s'.since ≡ s.since → Done s' p vs made u → Done s p vs made u
done_from s s' u p vs made e d =
    record { same = d.same; quiet = d.quiet; stands = d.stands; left = d.left; tail = subst (Tail u.since) e d.tail }

pub done_token : (s : State) (t : Token) (ts : List Token) → drop_trivia s.since ≡ t ∷ ts → Done s one (symbols false ts) (token t (length ts) done) (taken ts)
unfolding pushes
done_token s t ts e =
    record { same = same_one t (length ts); quiet = tt; stands = stands_taken ts; left = refl; tail = tail_next s.since t ts e }

pub noted_first : (s : State) (vs : List Symbol) (p q : Skeleton) → Noted s vs p → Noted s vs (p ⧺ q)
noted_first s vs p q n =
    record { rep = n.rep; among = reported_first p q n.among; raw = n.raw; mark_is = n.mark_is; left = n.left; tail = n.tail }

pub noted_second : (s : State) (vs : List Symbol) (p q : Skeleton) → Noted s vs q → Noted s vs (p ⧺ q)
noted_second s vs p q n =
    record { rep = n.rep; among = reported_second p q n.among; raw = n.raw; mark_is = n.mark_is; left = n.left; tail = n.tail }

pub noted_inside : (s : State) (vs : List Symbol) (k m m' : ℕ) (a i : Skeleton) → Noted s vs i → Noted s vs (closed k m m' a i)
noted_inside s vs k m m' a i n =
    record { rep = n.rep; among = reported_inside k m m' a i n.among; raw = n.raw; mark_is = n.mark_is; left = n.left; tail = n.tail }

pub noted_from : (s s' : State) (vs : List Symbol) (made : Skeleton) → Tail s'.since s.since → Noted s' vs made → Noted s vs made
noted_from s s' vs made e n =
    record { rep = n.rep; among = n.among; raw = n.raw; mark_is = n.mark_is; left = n.left; tail = tail_trans n.raw s'.since s.since n.tail e }

-- made here, whether or not trivia were passed over since
pub noted_at : (s s' : State) (made : Skeleton) → s'.since ≡ s.since → Noted s' (symbols false s'.since) made → Noted s (symbols false s.since) made
noted_at s s' made e n =
    record {
      rep = n.rep;
      among = n.among;
      raw = n.raw;
      mark_is = n.mark_is;
      left = n.left ∙ ap (symbols false) e;
      tail = subst (Tail n.raw) e n.tail;
    }

-- the same, whether or not trivia were passed over before
pub follows_from : (s s' : State) (shape : Expr → Skeleton) → s'.since ≡ s.since → (x : Res) (o : Out) → Follows s' shape x o → Follows s shape x o
follows_from s s' shape e (P.done f vs) o d = (d.0, done_from s s' o.state (shape f) vs o.made e d.1)
follows_from s s' shape e (P.report vs) o n = noted_from s s' vs o.made (rw e (tail_refl s.since)) n
follows_from s s' shape e refused o d = d
follows_from s s' shape e spent o d = tt

-- ---------------------------------------------------------------- reports

module _ (ask : Rule → State → Out) (b : Label) where
  -- a report made here
  pub emit_notes : (m h : ℕ) (s : State) → Noted s (symbols false s.since) (exec ask b (act (emit m h)) s).made
  unfolding exec perform do_emit makes peeked pushes
  emit_notes m h s = record { rep = _; among = here; raw = s.since; mark_is = refl; left = refl; tail = tail_refl s.since }

  -- and whatever is made after it
  pub emit_first : {m h : ℕ} {q : Prog} {s : State} → Ends ask b (act (emit m h) ⨟ q) s (λ o. Noted s (symbols false s.since) o.made)
  unfolding exec add
  emit_first {m} {h} {q} {s} =
      record {
        holds = λ c.
            noted_first s (symbols false s.since) (exec ask b (act (emit m h)) s).made (exec ask b q (exec ask b (act (emit m h)) s).state).made
            (emit_notes m h s);
      }

  pub emit_no : {m h : ℕ} {s : State} → Ends ask b (act (emit m h) ⨟ ret 0 no) s (λ o. (o.ans ≡ no) × Noted s (symbols false s.since) o.made)
  unfolding exec add
  emit_no {m} {h} {s} = record { holds = λ c. (refl, (emit_first {m = m} {h = h} {q = ret 0 no} {s = s}).holds c) }

-- ---------------------------------------------------------------- `p.expect(k)`

test_first : (k j : ℕ) → one_of (k ∷ []) j ≡ true → eqb k K.Ident ≡ false → eqb j K.Ident ≡ false
test_first k j h e = rw (test_one k j h) e

-- what the reader's `expect` comes to
reads_found : (k : ℕ) (r : List Token) (t : Token) (ts : List Token) → eqb k K.Ident ≡ false → drop_trivia r ≡ t ∷ ts → one_of (k ∷ []) (seen t) ≡ true
    → (f : List Symbol → Res) → P.expect k (symbols false r) f ≡ f (symbols false ts)
unfolding is
reads_found k r t ts i e h f =
    ap (λ (l : List Symbol). P.expect k l f) (symbols_past r t ts e (test_first k (seen t) h i))
    ∙ ap (λ (b : Bool). expect_if b (C.plain (seen t) ∷ symbols false ts) (f (symbols false ts))) h

reads_missing : (k : ℕ) (r l : List Token) → drop_trivia r ≡ l → first_in (k ∷ []) l ≡ false → (f : List Symbol → Res)
    → P.expect k (symbols false r) f ≡ P.report (symbols false r)
unfolding is first_in
reads_missing k r [] e g f = rw (symbols_end r e)
reads_missing k r (t ∷ ts) e g f = rw (symbols_next r t ts e) (rw g)

module _ (ask : Rule → State → Out) (b : Label) (k : ℕ) (plain : eqb k K.Ident ≡ false) where
  pub data Expected (s : State) (o : Out) : Type 0 where
    found : (t : Token) (ts : List Token) → drop_trivia s.since ≡ t ∷ ts → o ≡ took t ts
        → ((f : List Symbol → Res) → P.expect k (symbols false s.since) f ≡ f (symbols false ts)) → Expected s o
    missing : o.ans ≡ no → Noted s (symbols false s.since) o.made
        → ((f : List Symbol → Res) → P.expect k (symbols false s.since) f ≡ P.report (symbols false s.since)) → Expected s o

  eat_found : (s : State) (t : Token) (ts : List Token) → Stands s → drop_trivia s.since ≡ t ∷ ts → first_in (k ∷ []) (t ∷ ts) ≡ true
      → Ends ask b (eat (of_kind k)) s (λ o. o ≡ took t ts)
  unfolding eat add makes ◌⧺◌
  eat_found s t ts h e g =
      on_test ask b (silent_is ask b (t ∷ ts) true h e g) λ to st si. after_bump ask b t ts st (ap drop_trivia si ∙ e) (ends_ret ask b refl)

  expect_found : (s : State) (t : Token) (ts : List Token) → Stands s → drop_trivia s.since ≡ t ∷ ts → first_in (k ∷ []) (t ∷ ts) ≡ true
      → Ends ask b (expect (of_kind k)) s (λ o. o ≡ took t ts)
  unfolding expect add makes ◌⧺◌
  expect_found s t ts h e g = branch ask b (eat_found s t ts h e g) λ o p. rw p (ends_ret ask b refl)

  eat_missing : (s : State) (l : List Token) → Stands s → drop_trivia s.since ≡ l → first_in (k ∷ []) l ≡ false → Tests ask b (eat (of_kind k)) s no
  unfolding eat
  eat_missing s l h e g =
      test_case ask b (silent_is ask b l false h e g) λ to st si. test_seq ask b (test_expected ask b st) λ to' st' si'. test_tell ask b st'

  expect_missing : (s : State) (l : List Token) → Stands s → drop_trivia s.since ≡ l → first_in (k ∷ []) l ≡ false
      → Ends ask b (expect (of_kind k)) s (λ o. (o.ans ≡ no) × Noted s (symbols false s.since) o.made)
  unfolding expect
  expect_missing s l h e g =
      on_test ask b (eat_missing s l h e g) λ to st si. ends_map ask b (emit_no ask b) λ o p. (p.0, noted_at s to o.made si p.1)

  expect_by : (s : State) (l : List Token) (x : Bool) → Stands s → drop_trivia s.since ≡ l → first_in (k ∷ []) l ≡ x
      → Ends ask b (expect (of_kind k)) s (Expected s)
  unfolding first_in
  expect_by s l false h e g =
      ends_map ask b (expect_missing s l h e g) λ o p. missing p.0 p.1 (reads_missing k s.since l e g)
  expect_by s [] true h e g = absurd (false≢true g)
  expect_by s (t ∷ ts) true h e g =
      ends_map ask b (expect_found s t ts h e g) λ o p. found t ts e p (reads_found k s.since t ts plain e g)

  -- `p.expect` does what the reader's does
  pub expects : (s : State) → Stands s → Ends ask b (expect (of_kind k)) s (Expected s)
  expects s h = expect_by s (drop_trivia s.since) (first_in (k ∷ []) (drop_trivia s.since)) h refl refl
