-- The two other lists, that of before 6/14 and the Rust's: a push and a report go together with those of the run as it
-- is (`Keeps`). A push needs what crate facts shows of it: where it is left out, the list is no list of separators
-- alone, nor becomes one.
use Prim.Native.Nat.{ℕ, ◌-◌}
use mathlib.Core.Path.{◌≡◌, refl, sym, ap, ◌∙◌}
use mathlib.Core.Bool.{Bool, true, false, cond}
use mathlib.Core.List.{List, [], ◌∷◌, ◌++◌, append_assoc, append-nil}
use lib.Dec.{ltb, eqb}
use lib.ListN.{length}
use Rattle.definitions.specs.Errors as E
use Rattle.definitions.specs.Token.{Token, byte_count, one_of}
use Rattle.definitions.specs.Once.{pushed_once}
use Rattle.definitions.specs.Prog.{yes, add_expected, act}
use Rattle.definitions.specs.Skeleton.{Label, Report, done, report}
use Rattle.definitions.specs.Run.{State, mark_of, replies, makes, only_separators, error_range, pool_of, do_emit, do_expected}
use Rattle.basics.proofs.Tests.{cond-with}
use Rattle.run_steps.specs.Steps.{begun}
use Rattle.facts.proofs.Good.{Good}
use Rattle.facts.proofs.Given.{repeat_settled}
use Rattle.pending.specs.Once.{once}
use Rattle.pending.specs.Before.{over_unless, before}
use Rattle.pending.specs.Before as Before
use Rattle.pending.specs.Rust.{written, rust}
use Rattle.pending.specs.Rust as Rust
use Rattle.pending.proofs.Once.{once_once, once_push}
use Rattle.pending.proofs.Alike.{Terms, Alike, no_more, reports, limit}
use Rattle.pending.proofs.Together.{shrunk, Settled, Together}
use Rattle.pending.proofs.Acts.{Keeps}

-- ---------------------------------------------------------------- the test for separators

-- one expectation more
settled_push : (k : ℕ) (f : Bool) (s : State) → Settled f s.pending → (f ≡ false → Good (begun (act (add_expected k)) (shrunk s))) → Settled f (s.pending ++ (k ∷ []))
unfolding pushed_once
settled_push k f s d g =
    record {
      test = λ i u.
          ap (λ (x : List ℕ). only_separators (x ++ u)) (once_push k s.pending)
          ∙ cond-with (λ (x : List ℕ). only_separators (x ++ u) ≡ only_separators (s.pending ++ (k ∷ u))) (one_of (once s.pending) k) {x = once s.pending} {y = once s.pending ++ (k ∷ [])}
          (λ e. repeat_settled k (shrunk s) (g i) e u ∙ sym (repeat_settled k (shrunk s) (g i) e (k ∷ u)) ∙ d.test i (k ∷ u))
          (λ e. ap only_separators (append_assoc (once s.pending) (k ∷ []) u) ∙ d.test i (k ∷ u))
          ∙ ap only_separators (sym (append_assoc s.pending (k ∷ []) u));
    }

-- a list whose repeats are dropped
settled_once : (f : Bool) (l : List ℕ) → Settled f (once l)
settled_once f l = record { test = λ i u. ap (λ (x : List ℕ). only_separators (x ++ u)) (once_once l) }

-- the range
range_same : (f : Bool) (s : State) (ts : List Token) → Settled f s.pending → f ≡ false → error_range (shrunk s) ts ≡ error_range s ts
unfolding error_range
range_same f s [] d i = refl
range_same f s (t ∷ ts) d i =
    let e : only_separators (once s.pending) ≡ only_separators s.pending =
    ap only_separators (sym (append-nil (once s.pending))) ∙ d.test i [] ∙ ap only_separators (append-nil s.pending) in
    ap (λ (b : Bool). cond b (record { from = byte_count s.since; to = byte_count s.since - 1 }) (record { from = byte_count (t ∷ ts); to = byte_count ts })) e

-- the state of this run after a push
pushed : (k : ℕ) (s : State) → do_expected k (shrunk s) ≡ replies yes (shrunk (record { rest = s.rest; since = s.since; pending = s.pending ++ (k ∷ []) }))
unfolding do_expected
pushed k s = ap (λ (l : List ℕ). replies yes (record { rest = s.rest; since = s.since; pending = l })) (sym (once_push k s.pending))

-- ---------------------------------------------------------------- the list of before

abbrev pub as_before : Terms
as_before = record { list = once; Limited = Unit {0} }

over_alike : (f : Bool) (b : Bool) (m : ℕ) → Alike as_before f f done (over_unless b m)
unfolding over_unless
over_alike f true m = no_more
over_alike f false m = limit m tt no_more

pool_once : (m : ℕ) (l : List ℕ) → pool_of m (once l) ≡ once (pool_of m l)
unfolding pool_of once
pool_once m l = go (eqb m E.msg_expected)
  where
    go : (b : Bool) → cond b (once l) [] ≡ once (cond b l [])
    go true = refl
    go false = refl

-- a push, where b tells whether there was room
before_push : (k : ℕ) (f : Bool) (s : State) → Settled f s.pending → (f ≡ false → Good (begun (act (add_expected k)) (shrunk s))) → (b : Bool)
    → Together as_before f f [] (makes yes (over_unless b (mark_of s)) (record { rest = s.rest; since = s.since; pending = s.pending ++ (k ∷ []) })) (do_expected k (shrunk s))
unfolding makes replies
before_push k f s d g b =
    record { what = done; same = pushed k s; piece = record { after = f; made = over_alike f b (mark_of s); settled = settled_push k f s d g; free = λ i. (i, tt) } }

pub before_keeps : Keeps as_before before
unfolding Before.do_expected do_emit
before_keeps =
    record {
      push = λ k f s d g. before_push k f s d g (ltb (length s.pending) 256);
      emit = λ m h l f s d. unfold makes in
          (record {
            what = report (record { message = m; range = error_range (shrunk s) s.rest; mark = mark_of s; hint = h; labelled = l; pool = pool_of m (once s.pending) }) done;
            same = refl;
            piece =
                record {
                  after = f;
                  made =
                      reports (record {
                        but_range = ap (λ (u : List ℕ). record { message = m; range = record { from = 0; to = 0 }; mark = mark_of s; hint = h; labelled = l; pool = u }) (pool_once m s.pending);
                        range = range_same f s s.rest d;
                      }) no_more;
                  settled = d;
                  free = λ i. (i, tt);
                };
          });
    }

-- ---------------------------------------------------------------- the Rust's list

abbrev pub as_rust : Terms
as_rust = record { list = λ l. l; Limited = ⊥ }

-- a report at s, where b tells whether its message is 1: its list, and the state in which it is made
abbrev rust_list : Bool → State → List ℕ
rust_list b s = cond b (once s.pending) s.pending

abbrev rust_state : Bool → State → State
rust_state b s = record { rest = s.rest; since = s.since; pending = rust_list b s }

abbrev told : ℕ → ℕ → Label → Bool → State → Report
told m h l b s = record { message = m; range = error_range s s.rest; mark = mark_of s; hint = h; labelled = l; pool = cond b s.pending [] }

rust_emit : (m h : ℕ) (l : Label) (f : Bool) (s : State) → Settled f s.pending → (b : Bool)
    → Together as_rust f f [] (makes yes (report (told m h l b (rust_state b s)) done) (rust_state b s)) (makes yes (report (told m h l b (shrunk s)) done) (shrunk s))
unfolding makes
rust_emit m h l f s d true =
    record {
      what = report (told m h l true (shrunk s)) done;
      same = ap (λ (u : List ℕ). makes yes (report (told m h l true (shrunk s)) done) (record { rest = s.rest; since = s.since; pending = u })) (sym (once_once s.pending));
      piece = record { after = f; made = reports (record { but_range = refl; range = λ i. refl }) no_more; settled = settled_once f s.pending; free = λ i. (i, tt) };
    }
rust_emit m h l f s d false =
    record {
      what = report (told m h l false (shrunk s)) done;
      same = refl;
      piece = record { after = f; made = reports (record { but_range = refl; range = range_same f s s.rest d }) no_more; settled = d; free = λ i. (i, tt) };
    }

pub rust_keeps : Keeps as_rust rust
unfolding Rust.do_expected replies do_emit written pool_of
rust_keeps =
    record {
      push = λ k f s d g. record { what = done; same = pushed k s; piece = record { after = f; made = no_more; settled = settled_push k f s d g; free = λ i. (i, tt) } };
      emit = λ m h l f s d. rust_emit m h l f s d (eqb m E.msg_expected);
    }
