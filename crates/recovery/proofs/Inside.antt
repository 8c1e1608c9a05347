-- Every report lies inside its file: its mark, its range and its label, all counted from the end.
use Prim.Native.Nat.{ℕ, zero, suc, ◌+◌, ◌-◌, ◌≤◌, zero-le}
use native.Mathlib.Nat.{le_trans, le_refl}
use native.Mathlib.Omega.{arith}
use mathlib.Core.Path.{◌≡◌, refl, ap, sym, subst}
use mathlib.Core.List.{List, [], ◌∷◌}
use lib.Dec.{eqb}
use lib.ListN.{length}
use Rattle.definitions.specs.Layout.{MOST_OPEN_CALLS}
use Rattle.definitions.specs.TokenKind as K
use Rattle.definitions.specs.Token.{Token, trivia, byte_count}
use Rattle.definitions.specs.Prog.{Ans, yes, Rule, Act, silent_at, at_end, immediate, immediate_next, add_expected, bump, bump_name, bump_argument, emit, emit_unclosed, less, Prog, ret, act, ◌⨟◌, case, in_marker, loop, chain, brace, open_call}
use Rattle.definitions.specs.Grammar.{grammar, Entry, whole}
use Rattle.definitions.specs.Skeleton.{Span, Label, no_label, label, Report, Skeleton, done, token, ◌⧺◌}
use Rattle.definitions.specs.Run.{State, Out, mark_of, peeked, replies, makes, taken, do_bump, do_name, add, at_depth, do_argument, only_separators, error_range, do_emit, do_expected, perform, closed, marked, unlinked, here, exec, run}
use Rattle.definitions.specs.Report.{pushes, reports}
use Rattle.definitions.specs.Call.{run_entry}
use Rattle.basics.proofs.Tests.{cond-all}
use Rattle.laws.proofs.Skeleton.{bytes_append}
use Rattle.laws.proofs.Engine.{Composes, choose_all, iter_all, chained_all}
use Rattle.laws.proofs.Kept.{Stands, stands_taken, Kept, run_kept, exec_kept}
use Rattle.laws.proofs.Marks.{entry_marks}
use Rattle.recovery.proofs.Told.{All, all_append, told, told_all, told_closed, all_map, falls_below}

-- ---------------------------------------------------------------- ranges

-- a range that begins and ends at most b bytes from the end; or at the last byte, if there is none
abbrev pub RangeIn : ℕ → Span → Type 0
RangeIn b r = (r.from ≤ suc b) × (r.to ≤ suc b)

stands_bytes : (s : State) → Stands s → byte_count s.rest ≤ byte_count s.since
stands_bytes s h = omega (arith, simp bytes_append at (ap byte_count h.passed.split))

range_in : (b : ℕ) (s : State) (ts : List Token) → byte_count s.since ≤ b → byte_count ts ≤ b → RangeIn b (error_range s ts)
unfolding error_range byte_count
range_in b s [] h g = (omega arith, zero-le)
range_in b s (t ∷ ts) h g =
    cond-all (RangeIn b) (only_separators s.pending) {x = record { from = byte_count s.since; to = byte_count s.since - 1 }} {y = record { from = t.len + byte_count ts; to = byte_count ts }}
    (omega arith, omega arith) (omega arith, omega arith)

-- of a run that begins with at most b bytes left
pub record Ranging (b : ℕ) (s : State) (p : Skeleton) (u : State) : Type 0 where
  pub less : byte_count u.since ≤ byte_count s.since
  pub ranges : byte_count s.since ≤ b → All (λ r. RangeIn b r.range) (told p)

ranges_kept : (b : ℕ) → Kept (Ranging b)
unfolding pushes reports byte_count
ranges_kept b =
    let P : Report → Type 0 = λ r. RangeIn b r.range in
    record {
      pass = λ s ts h p. record { less = le_refl _; ranges = λ _. tt };
      expect = λ s k h. record { less = le_refl _; ranges = λ _. tt };
      token = λ s t ts h e d. let w : byte_count s.rest ≤ byte_count s.since = stands_bytes s h in record { less = omega (arith, ap byte_count e); ranges = λ _. tt };
      name = λ s ks t raw ts h e d i. let w : byte_count s.rest ≤ byte_count s.since = stands_bytes s h in record { less = omega (arith, simp bytes_append at (ap byte_count e)); ranges = λ _. tt };
      report = λ s m k l h d. record { less = le_refl _; ranges = λ g. (range_in b s s.rest g (le_trans (stands_bytes s h) g), tt) };
      over = λ s h. record { less = le_refl _; ranges = λ _. tt };
      join = λ s u v p q f g. record { less = le_trans g.less f.less; ranges = λ h. told_all P p q (f.ranges h) (g.ranges (le_trans f.less h)) };
      close = λ s u v k a i f g.
          record {
            less = le_trans g.less f.less;
            ranges = λ h.
                subst (All P) (sym (told_closed k (mark_of u) (mark_of v) a i))
                (all_append P (told a) (told i) (f.ranges h) (g.ranges (le_trans f.less h)));
          };
    }

-- ---------------------------------------------------------------- labels

abbrev pub LabelIn : ℕ → Label → Type 0
LabelIn b no_label = Unit {0}
LabelIn b (label s) = (s.from ≤ b) × (s.to ≤ b)

module _ (b : ℕ) where
  abbrev P : Report → Type 0
  P r = LabelIn b r.labelled

  -- at most b bytes are left
  record Near (s : State) : Type 0 where
    pub stands : Stands s
    pub bytes_left : byte_count s.since ≤ b

  record Labels (o : Out) : Type 0 where
    pub near : Near o.state
    pub labels : All P (told o.made)

  abbrev Q : State → Out → Type 0
  Q s o = Near s → Labels o

  record Chaining (u : State) (a i : Skeleton) : Type 0 where
    pub near : Near u
    pub before : All P (told a)
    pub since : All P (told i)

  abbrev C : State → ℕ → Skeleton → Skeleton → State → Type 0
  C s m a i u = Near s → Chaining u a i

  closed_labels : (k m m' : ℕ) (a i : Skeleton) → All P (told a) → All P (told i) → All P (told (closed k m m' a i))
  closed_labels k m m' a i h g = subst (All P) (sym (told_closed k m m' a i)) (all_append P (told a) (told i) h g)

  rets : (k : ℕ) (a : Ans) (s : State) → Q s (record { ans = a; shape = k; made = done; state = s })
  unfolding pushes reports
  rets k a s h = record { near = h; labels = tt }

  labels_compose : Composes Q C
  unfolding add marked makes unlinked pushes reports
  labels_compose =
      record {
        idle = rets 0;
        add = λ s o o' p q h. let x : Labels o = p h in let y : Labels o' = q x.near in record { near = y.near; labels = told_all P o.made o'.made x.labels y.labels };
        mark = λ s o p h. let x : Labels o = p h in record { near = x.near; labels = closed_labels o.shape (mark_of s) (mark_of o.state) done o.made tt x.labels };
        turn = λ s o p h. let x : Labels o = p h in record { near = x.near; labels = x.labels };
        first = λ s o p h. let x : Labels o = p h in record { near = x.near; before = tt; since = x.labels };
        more = λ s u m a i o c p h.
            let x : Chaining u a i = c h in
            let y : Labels o = p x.near in
            record { near = y.near; before = x.before; since = told_all P i o.made x.since y.labels };
        link = λ s u m k a i o b q e c h.
            let v = o.state in
            let x : Chaining v a (i ⧺ o.made) = c h in
            record { near = x.near; before = unfold closed in closed_labels (suc k) m (mark_of v) a (i ⧺ o.made) x.before x.since; since = tt };
        last = λ s u m a i x c h. let y : Chaining u a i = c h in record { near = y.near; labels = closed_labels 0 m (mark_of u) a i y.before y.since };
      }

  -- no action but the two that make reports makes one
  depth_told : (n : ℕ) (o : Out) (f : ℕ → Out) → told o.made ≡ [] → ((m : ℕ) → told (f m).made ≡ []) → told (at_depth n o f).made ≡ []
  unfolding at_depth
  depth_told zero o f p q = p
  depth_told (suc n) o f p q = q n

  argument_told : (n : ℕ) (s : State) (ts : List Token) → told (do_argument n s ts).made ≡ []
  unfolding do_argument replies makes add pushes reports ◌⧺◌
  argument_told n s [] = refl
  argument_told n s (t ∷ ts) =
      let Z : Out → Type 0 = λ (o : Out). told o.made ≡ [] in
      let go : (m : ℕ) → Z (add (makes yes (token t (length ts) done) (taken ts)) (do_argument m (taken ts) ts)) = λ m. argument_told m (taken ts) ts in
      cond-all Z (trivia t) (argument_told n s ts)
      (cond-all Z (eqb t.kind K.LParen) (go (suc n))
      (cond-all Z (eqb t.kind K.RParen) (depth_told n _ _ refl go) (cond-all Z (eqb t.kind K.Comma) (depth_told n _ _ refl (λ m. go (suc m))) (go n))))

  bump_told : (s : State) (ts : List Token) → told (do_bump s ts).made ≡ []
  unfolding do_bump replies makes pushes reports
  bump_told s [] = refl
  bump_told s (t ∷ ts) = refl

  name_told : (ks : List ℕ) (s : State) (ts : List Token) → told (do_name ks s ts).made ≡ []
  unfolding do_name replies makes pushes reports
  name_told ks s [] = refl
  name_told ks s (t ∷ ts) = refl

  act_labels : (l : Label) → LabelIn b l → (a : Act) (s : State) → All P (told (perform l a s).made)
  unfolding perform replies do_expected do_emit makes pushes reports
  act_labels l w (silent_at ks) s = tt
  act_labels l w at_end s = tt
  act_labels l w (immediate k) s = tt
  act_labels l w (immediate_next k) s = tt
  act_labels l w (add_expected k) s = tt
  act_labels l w bump s = subst (All P) (sym (bump_told (peeked s) (peeked s).rest)) tt
  act_labels l w (bump_name ks) s = subst (All P) (sym (name_told ks (peeked s) (peeked s).rest)) tt
  act_labels l w bump_argument s = subst (All P) (sym (argument_told 0 s s.rest)) tt
  act_labels l w (emit m h) s = (tt, tt)
  act_labels l w emit_unclosed s = (w, tt)
  act_labels l w (less m n) s = tt

  here_in : (s : State) (ts : List Token) → byte_count ts ≤ b → LabelIn b (here ts)
  unfolding byte_count
  here_in s [] h = (zero-le, zero-le)
  here_in s (t ∷ ts) h = (h, omega arith)

  near_after : (n : ℕ) (l : Label) (p : Prog) (s : State) → Near s → Near (exec (run n) l p s).state
  near_after n l p s h =
      let g = exec_kept (Ranging b) (ranges_kept b) (run n) (run_kept (Ranging b) (ranges_kept b) n) l p s h.stands in
      record { stands = g.0; bytes_left = le_trans g.1.less h.bytes_left }

  exec_labels : (n : ℕ) → ((r : Rule) (s : State) → Q s (run n r s)) → (l : Label) → LabelIn b l → (p : Prog) (s : State) → Q s (exec (run n) l p s)
  unfolding exec
  exec_labels n f l w (ret k a) s = rets k a s
  exec_labels n f l w (act a) s = λ h. record { near = near_after n l (act a) s h; labels = act_labels l w a s }
  exec_labels n f l w (p ⨟ q) s = labels_compose.add s _ _ (exec_labels n f l w p s) (exec_labels n f l w q (exec (run n) l p s).state)
  exec_labels n f l w (case c m y a) s =
      labels_compose.add s _ _ (exec_labels n f l w c s)
      (choose_all Q C labels_compose (exec (run n) l c s).ans (exec (run n) l m) (exec (run n) l y) (exec (run n) l a) (exec_labels n f l w m) (exec_labels n f l w y) (exec_labels n f l w a) (exec (run n) l c s).state)
  exec_labels n f l w (in_marker p) s = labels_compose.mark s _ (exec_labels n f l w p s)
  exec_labels n f l w (loop p) s = iter_all Q C labels_compose (suc (length s.rest)) (exec (run n) l p) (exec_labels n f l w p) s
  exec_labels n f l w (chain p q) s = chained_all Q C labels_compose (exec (run n) l q) (exec_labels n f l w q) s (exec (run n) l p s) (exec_labels n f l w p s)
  exec_labels n f l w (brace p) s = λ h. exec_labels n f (here s.rest) (here_in s s.rest (le_trans (stands_bytes s h.stands) h.bytes_left)) p s h
  exec_labels n f l w (open_call r) s = f r s

  run_labels : (n : ℕ) (r : Rule) (s : State) → Q s (run n r s)
  unfolding run makes pushes reports
  run_labels zero r s = λ h. record { near = h; labels = tt }
  run_labels (suc n) r s = exec_labels n (λ q u. run_labels n q u) no_label tt (grammar r) s

-- ---------------------------------------------------------------- a whole file

-- a report of a file of n tokens and b bytes
pub record Inside (n b : ℕ) (r : Report) : Type 0 where
  pub marked : r.mark ≤ n
  pub ranged : RangeIn b r.range
  pub labelled : LabelIn b r.labelled

all_three : (A B C : Report → Type 0) (l : List Report) → All A l → All B l → All C l → All (λ r. A r × B r × C r) l
all_three A B C [] x y z = tt
all_three A B C (r ∷ l) x y z = ((x.0, y.0, z.0), all_three A B C l x.1 y.1 z.1)

-- EVERY REPORT OF A FILE LIES INSIDE IT
pub entry_inside : (e : Entry) (ts : List Token) → All (Inside (length ts) (byte_count ts)) (told (run_entry e ts))
unfolding run_entry
entry_inside e ts =
    let b : ℕ = byte_count ts in
    all_map _ (Inside (length ts) b) (λ r h. record { marked = h.0; ranged = h.1; labelled = h.2 }) (told (run_entry e ts))
    (all_three (λ r. r.mark ≤ length ts) (λ r. RangeIn b r.range) (λ r. LabelIn b r.labelled) (told (run_entry e ts))
    (falls_below (length ts) _ (run_entry e ts) (entry_marks e ts))
    ((exec_kept (Ranging b) (ranges_kept b) (run MOST_OPEN_CALLS) (run_kept (Ranging b) (ranges_kept b) MOST_OPEN_CALLS) no_label (whole e) (taken ts) (stands_taken ts)).1.ranges (le_refl _))
    (exec_labels b MOST_OPEN_CALLS (run_labels b MOST_OPEN_CALLS) no_label tt (whole e) (taken ts) (record { stands = stands_taken ts; bytes_left = le_refl _ })).labels)
