-- Where a run's skeleton leaves off among the raw tokens, no more of them are left than the run's mark says: what was
-- taken is placed, and trivia besides.
use Prim.Native.Nat.{ℕ, zero, suc, ◌≤◌}
use native.Mathlib.Nat.{le_trans, le_refl}
use mathlib.Core.Path.{◌≡◌, sym, ◌∙◌, ap, subst}
use mathlib.Core.List.{List, ◌∷◌, ◌++◌}
use lib.ListN.{length, drop}
use lib.Seq.{drop-append_seam}
use Rattle.definitions.specs.Token.{Token, drop_trivia, past}
use Rattle.definitions.specs.Prog.{Prog}
use Rattle.definitions.specs.Skeleton.{Label, Skeleton, done, token, name, ◌⧺◌}
use Rattle.definitions.specs.Run.{State, mark_of, closed, exec, run}
use Rattle.definitions.specs.Place.{after}
use Rattle.laws.proofs.Trivia.{drop_twice, drop_trivia_length}
use Rattle.laws.proofs.Skeleton.{after_join}
use Rattle.laws.proofs.Kept.{Stands, Kept, run_kept, exec_kept}
use Rattle.laws.proofs.Between.{Between, stands_first, Taking, reads_kept}

-- from tokens that differ from those after s's last one by trivia in front at most
abbrev pub Short : List Token → Skeleton → ℕ → Type 0
Short a p m = (ts : List Token) → drop_trivia ts ≡ drop_trivia a → length ts ≤ length a → length (after p ts) ≤ m

record Leaves (s : State) (p : Skeleton) (u : State) : Type 0 where
  takes : Taking s p u
  short : Short s.since p (mark_of u)

-- nothing is placed
still : (a : List Token) → Short a done (length a)
unfolding after
still a ts e l = l

short_token : (t : Token) (us a : List Token) → drop_trivia a ≡ t ∷ us → Short a (token t (length us) done) (length us)
unfolding after
short_token t us a d ts e l = subst (λ (x : List Token). length (past x) ≤ length us) (sym (e ∙ d)) (le_refl _)

short_name : (raw us a : List Token) → drop_trivia a ≡ raw ++ us → Short a (name raw (length us) done) (length us)
unfolding after
short_name raw us a d ts e l = subst (λ (x : List Token). length x ≤ length us) (sym (ap (drop (length raw)) (e ∙ d) ∙ drop-append_seam raw us)) (le_refl _)

short_join : (a b : List Token) (m : ℕ) (p q : Skeleton) → Between p a b → Short a p (length b) → Short b q m → Short a (p ⧺ q) m
short_join a b m p q t f g ts e l = subst (λ (x : List Token). length x ≤ m) (sym (after_join p q ts)) (g (after p ts) (t.leaves ts e) (f ts e l))

short_close : (a b : List Token) (k x y m : ℕ) (p q : Skeleton) → Between p a b → Short a p (length b) → Short b q m → Short a (closed k x y p q) m
unfolding closed after
short_close a b zero x y m p q t f g ts e l = g (after p ts) (t.leaves ts e) (f ts e l)
short_close a b (suc k) x y m p q t f g ts e l =
    let d = drop_twice ts ∙ e in
    g (after p (drop_trivia ts)) (t.leaves (drop_trivia ts) d) (f (drop_trivia ts) d (le_trans (drop_trivia_length ts) l))

leaves_kept : Kept Leaves
unfolding after
leaves_kept =
    record {
      pass = λ s ts h p. record { takes = reads_kept.pass s ts h p; short = still s.since };
      expect = λ s k h. record { takes = reads_kept.expect s k h; short = still s.since };
      token = λ s t ts h e d. record { takes = reads_kept.token s t ts h e d; short = short_token t ts s.since (stands_first s t ts h e d) };
      name = λ s ks t raw ts h e d i. record { takes = reads_kept.name s ks t raw ts h e d i; short = short_name (t ∷ raw) ts s.since (stands_first s t (raw ++ ts) h e d) };
      report = λ s m k l h d. record { takes = reads_kept.report s m k l h d; short = λ ts e x. x };
      over = λ s h. record { takes = reads_kept.over s h; short = λ ts e x. x };
      join = λ s u v p q f g.
          record { takes = reads_kept.join s u v p q f.takes g.takes; short = short_join s.since u.since (mark_of v) p q f.takes.takes f.short g.short };
      close = λ s u v k a i f g.
          record {
            takes = reads_kept.close s u v k a i f.takes g.takes;
            short = short_close s.since u.since k (mark_of u) (mark_of v) (mark_of v) a i f.takes.takes f.short g.short;
          };
    }

-- EVERY PROGRAM
pub exec_short : (n : ℕ) (b : Label) (p : Prog) (s : State) → Stands s → Short s.since (exec (run n) b p s).made (mark_of (exec (run n) b p s).state)
exec_short n b p s h = (exec_kept Leaves leaves_kept (run n) (run_kept Leaves leaves_kept n) b p s h).1.short
