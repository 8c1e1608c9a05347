-- A run's skeleton reads its tokens off the file: each token and each name in it stands where the sink will look for
-- it.
use Prim.Native.Nat.{ℕ, zero, suc}
use mathlib.Core.Path.{◌≡◌, ap, sym, ◌∙◌}
use mathlib.Core.Bool.{false}
use mathlib.Core.List.{List, ◌∷◌, ◌++◌}
use lib.ListN.{length, drop}
use lib.Seq.{drop-append_seam}
use Rattle.definitions.specs.Layout.{MOST_OPEN_CALLS}
use Rattle.definitions.specs.Token.{Token, trivia, drop_trivia, past}
use Rattle.definitions.specs.Prog.{Rule, Prog}
use Rattle.definitions.specs.Grammar.{Entry, whole}
use Rattle.definitions.specs.Skeleton.{Label, no_label, Skeleton, done, token, name, node, ignored, report, over, ◌⧺◌}
use Rattle.definitions.specs.Run.{State, mark_of, taken, closed, exec, run}
use Rattle.definitions.specs.Place.{after}
use Rattle.definitions.specs.Call.{run_entry}
use Rattle.laws.proofs.Trivia.{drop_twice, drop_none, passes_drop}
use Rattle.laws.proofs.Skeleton.{after_join}
use Rattle.laws.proofs.Kept.{Stands, Kept, run_kept, exec_kept, whole_kept}

-- each token of p is the first of ts that is not trivia where p comes to it, each name the first ones; each with the
-- mark after it
unfoldable pub Reads : Skeleton → List Token → Type 0
unfolding after
Reads done ts = Unit {0}
Reads (token t m o) ts = (drop_trivia ts ≡ t ∷ past (drop_trivia ts)) × (m ≡ length (past (drop_trivia ts))) × Reads o (past (drop_trivia ts))
Reads (name raw m o) ts =
    (drop_trivia ts ≡ raw ++ drop (length raw) (drop_trivia ts)) × (m ≡ length (drop (length raw) (drop_trivia ts))) × Reads o (drop (length raw) (drop_trivia ts))
Reads (node k m m' a i o) ts = Reads a (drop_trivia ts) × Reads i (after a (drop_trivia ts)) × Reads o (after i (after a (drop_trivia ts)))
Reads (ignored m m' a i o) ts = Reads a ts × Reads i (after a ts) × Reads o (after i (after a ts))
Reads (report r o) ts = Reads o ts
Reads (over m o) ts = Reads o ts

pub reads_join : (p q : Skeleton) (ts : List Token) → Reads p ts → Reads q (after p ts) → Reads (p ⧺ q) ts
unfolding Reads ◌⧺◌ after
reads_join done q ts h g = g
reads_join (token t m p) q ts h g = (h.0, h.1, reads_join p q _ h.2 g)
reads_join (name raw m p) q ts h g = (h.0, h.1, reads_join p q _ h.2 g)
reads_join (node k m m' a i p) q ts h g = (h.0, h.1, reads_join p q _ h.2 g)
reads_join (ignored m m' a i p) q ts h g = (h.0, h.1, reads_join p q _ h.2 g)
reads_join (report r p) q ts h g = reads_join p q ts h g
reads_join (over m p) q ts h g = reads_join p q ts h g

-- p reads what lies between a and b, and trivia aside it leaves b
pub record Between (p : Skeleton) (a b : List Token) : Type 0 where
  pub reads : (ts : List Token) → drop_trivia ts ≡ drop_trivia a → Reads p ts
  pub leaves : (ts : List Token) → drop_trivia ts ≡ drop_trivia a → drop_trivia (after p ts) ≡ drop_trivia b

between_join : (p q : Skeleton) (a b c : List Token) → Between p a b → Between q b c → Between (p ⧺ q) a c
between_join p q a b c f g =
    record {
      reads = λ ts e. reads_join p q ts (f.reads ts e) (g.reads (after p ts) (f.leaves ts e));
      leaves = λ ts e. ap drop_trivia (after_join p q ts) ∙ g.leaves (after p ts) (f.leaves ts e);
    }

between_close : (k m m' : ℕ) (p q : Skeleton) (a b c : List Token) → Between p a b → Between q b c → Between (closed k m m' p q) a c
unfolding closed Reads after
between_close zero m m' p q a b c f g =
    record {
      reads = λ ts e. (f.reads ts e, g.reads (after p ts) (f.leaves ts e), tt);
      leaves = λ ts e. g.leaves (after p ts) (f.leaves ts e);
    }
between_close (suc k) m m' p q a b c f g =
    record {
      reads = λ ts e. (f.reads (drop_trivia ts) (drop_twice ts ∙ e), g.reads (after p (drop_trivia ts)) (f.leaves (drop_trivia ts) (drop_twice ts ∙ e)), tt);
      leaves = λ ts e. g.leaves (after p (drop_trivia ts)) (f.leaves (drop_trivia ts) (drop_twice ts ∙ e));
    }

between_none : (a : List Token) → Between done a a
unfolding Reads after
between_none a = record { reads = λ ts e. tt; leaves = λ ts e. e }

between_token : (t : Token) (us a : List Token) → drop_trivia a ≡ t ∷ us → Between (token t (length us) done) a us
unfolding Reads after
between_token t us a d =
    record {
      reads = λ ts e. (e ∙ d ∙ ap (λ (l : List Token). t ∷ past l) (sym (e ∙ d)), ap (λ (l : List Token). length (past l)) (sym (e ∙ d)), tt);
      leaves = λ ts e. ap (λ (l : List Token). drop_trivia (past l)) (e ∙ d);
    }

between_name : (raw us a : List Token) → drop_trivia a ≡ raw ++ us → Between (name raw (length us) done) a us
unfolding Reads after
between_name raw us a d =
    let f : (ts : List Token) → drop_trivia ts ≡ drop_trivia a → drop (length raw) (drop_trivia ts) ≡ us =
    λ ts e. ap (drop (length raw)) (e ∙ d) ∙ drop-append_seam raw us in
    record {
      reads = λ ts e. (e ∙ d ∙ ap (raw ++◌) (sym (f ts e)), ap length (sym (f ts e)), tt);
      leaves = λ ts e. ap drop_trivia (f ts e);
    }

-- where a token that is not trivia stands at the cursor, a peek from after the last token taken comes to it
pub stands_first : (s : State) (t : Token) (us : List Token) → Stands s → s.rest ≡ t ∷ us → trivia t ≡ false → drop_trivia s.since ≡ t ∷ us
stands_first s t us h e d = passes_drop s.since s.rest h.passed ∙ ap drop_trivia e ∙ drop_none t us d

pub record Taking (s : State) (p : Skeleton) (u : State) : Type 0 where
  pub takes : Between p s.since u.since

pub reads_kept : Kept Taking
unfolding Reads after
reads_kept =
    record {
      pass = λ s ts h p. record { takes = between_none s.since };
      expect = λ s k h. record { takes = between_none s.since };
      token = λ s t ts h e d. record { takes = between_token t ts s.since (stands_first s t ts h e d) };
      name = λ s ks t raw ts h e d i. record { takes = between_name (t ∷ raw) ts s.since (stands_first s t (raw ++ ts) h e d) };
      report = λ s m k l h d. record { takes = record { reads = λ ts e. tt; leaves = λ ts e. e } };
      over = λ s h. record { takes = record { reads = λ ts e. tt; leaves = λ ts e. e } };
      join = λ s u v p q f g. record { takes = between_join p q s.since u.since v.since f.takes g.takes };
      close = λ s u v k a i f g. record { takes = between_close k (mark_of u) (mark_of v) a i s.since u.since v.since f.takes g.takes };
    }

-- EVERY CALL reads what it takes
pub run_reads : (n : ℕ) (r : Rule) (s : State) → Stands s → Between (run n r s).made s.since (run n r s).state.since
run_reads n r s h = (run_kept Taking reads_kept n r s h).1.takes

-- and every program over such calls
pub exec_reads : (n : ℕ) (b : Label) (p : Prog) (s : State) → Stands s → Between (exec (run n) b p s).made s.since (exec (run n) b p s).state.since
exec_reads n b p s h = (exec_kept Taking reads_kept (run n) (run_kept Taking reads_kept n) b p s h).1.takes

-- and a whole file
pub entry_reads : (e : Entry) (ts : List Token) → Between (run_entry e ts) ts (exec (run MOST_OPEN_CALLS) no_label (whole e) (taken ts)).state.since
entry_reads e ts = (whole_kept Taking reads_kept e ts).takes
