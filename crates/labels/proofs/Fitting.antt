-- The reports of some Names, pushed one after the other: all fit, and stand in the buffer as the definitions say, or
-- the first that does not fit is refusal 7.
use Rattle.std.proofs.Common.{ℕ, zero, suc, ◌+◌, ◌-◌, ◌*◌, ◌≤◌, arith, mod-eq_of_lt, ◌≡◌, refl, ap, sym, ◌∙◌, subst, Bool, true, false, cond, not, ◌&&◌, List, [], ◌∷◌, ◌++◌, append_assoc, leb, length, take, drop, length-append, take_at, drop-drop, le-leb, Ok, Err, length-take-le, take-append-drop}
use mathlib.Core.Bool.{false≢true}
use lib.Seq.{sets-eq, drop-append-add}
use borrow.Author.Tests.{lt-leb}
use Rattle.basics.specs.Word.{low}
use Rattle.basics.proofs.Flags.{flags}
use Rattle.basics.proofs.Tests.{cond-all}
use Rattle.definitions.specs.Layout.{REPORT_ROW}
use Rattle.definitions.specs.Token.{Token, byte_count}
use Rattle.definitions.specs.Refusal.{Refusal, no_report_room, Verdict, accepted, refused, place_of}
use Rattle.definitions.specs.Strict.{NameAt, keeps_rule, breaking, name_numbers, names_fit}
use Rattle.laws.proofs.NamesFound.{Back, forward, forwards}
use Rattle.layout.specs.Rows.{put_row}
use Rattle.labels.specs.declared.report.NoMoreReports.{NoMoreReports}
use Rattle.labels.specs.Model.{breaks, no_room, name_row, put_name, reported}
use Rattle.labels.specs.Promise.{Leaves}
use Rattle.labels.proofs.Standing.{Rep, File, pushed, emit, emits}
use Rattle.labels.proofs.Alike.{put_size}

-- a range that ends within the input
pub breaks_rule : (bytes : List ℕ) (start end : ℕ) → end ≤ length bytes → breaks bytes start end ≡ not (keeps_rule (take (end - start) (drop start bytes)))
unfolding breaks
breaks_rule bytes start end h = go (leb start end) refl
  where
    go : (b : Bool) → leb start end ≡ b
        → (b && leb end (length bytes) && not (keeps_rule (take (end - start) (drop start bytes))))
        ≡ not (keeps_rule (take (end - start) (drop start bytes)))
    go true e = rw (le-leb end (length bytes) h) refl
    go false e = let z : end - start ≡ 0 = omega flags in rw z (unfold keeps_rule in refl)

-- a list in the strict setting: those that the rule refuses
breaks_or : (bytes : List ℕ) (n : NameAt) (l : List NameAt) (c : Bool) → not (keeps_rule (take (n.end - n.start) (drop n.start bytes))) ≡ c
    → breaking bytes (n ∷ l) ≡ cond c (n ∷ breaking bytes l) (breaking bytes l)
unfolding breaking
breaks_or bytes n l c e = go (keeps_rule (take (n.end - n.start) (drop n.start bytes))) c e
  where
    go : (k c : Bool) → not k ≡ c → cond k (breaking bytes l) (n ∷ breaking bytes l) ≡ cond c (n ∷ breaking bytes l) (breaking bytes l)
    go true true e = absurd (false≢true e)
    go true false e = refl
    go false true e = refl
    go false false e = absurd (false≢true (sym e))

verdict_number : Verdict → ℕ
verdict_number accepted = 0
verdict_number (refused q) = 1

pub refused_not : (q : Refusal) → refused q ≡ accepted → ⊥
unfolding verdict_number
refused_not q e = let y : ◌≡◌ {A = ℕ} 1 0 = ap verdict_number e in omega arith

module _ (F : File) (covered : byte_count F.all ≡ length F.bytes) where
  abbrev bytes : List ℕ
  bytes = F.bytes

  abbrev all : List Token
  all = F.all

  abbrev first : ℕ
  first = F.first

  -- the Names, in the file
  abbrev pub named : List Back → List NameAt
  named l = breaking bytes (forwards (length all) (byte_count all) l)

  -- so many numbers written, in this buffer
  abbrev pub so_far : ℕ → List ℕ → Rep
  so_far w R = record { names = Ok w; reports = R }

  -- after reports that all fitted: those of the Names l follow
  pub record Followed (w : ℕ) (R : List ℕ) (l : List NameAt) (q : Rep) : Type 0 where
    pub names : q.names ≡ Ok (w + length l * REPORT_ROW)
    pub reports : q.reports ≡ take w R ++ (name_numbers first l ++ drop (w + length l * REPORT_ROW) R)

  pub record Stopped (m : ℕ) (q : Rep) : Type 0 where
    pub written : ℕ
    pub names : q.names ≡ Err (no_room written m)

  -- once refused, nothing changes
  emits_stopped : (l : List Back) (e : NoMoreReports) (R : List ℕ) → emits F l (record { names = Err e; reports = R }) ≡ record { names = Err e; reports = R }
  unfolding emits emit pushed reported
  emits_stopped [] e R = refl
  emits_stopped (x ∷ l) e R =
      cond-all (λ (q : Rep). emits F l q ≡ record { names = Err e; reports = R })
      (breaks bytes (byte_count all - x.bytes_left) (byte_count all - x.bytes_after))
      (emits_stopped l e R) (emits_stopped l e R)

  -- the buffer after one that fits
  abbrev fitted : NameAt → ℕ → List ℕ → List ℕ
  fitted n w R = put_name w n.start n.end n.first_token first R

  written_row : (n : NameAt) (w : ℕ) (R : List ℕ) → w + REPORT_ROW ≤ length R
      → fitted n w R ≡ take w R ++ name_row n.start n.end n.first_token first ++ drop (w + REPORT_ROW) R
  unfolding put_row
  written_row n w R h =
      let e : leb w (length R) ≡ true = le-leb w (length R) (omega (arith, h)) in
      let f : leb REPORT_ROW (length R - w) ≡ true = le-leb REPORT_ROW (length R - w) (omega (arith, h)) in
      rw (e, f) (sets-eq (name_row n.start n.end n.first_token first) R w h)

  followed_one : (n : NameAt) (l : List NameAt) (w : ℕ) (R : List ℕ) (q : Rep) → w + REPORT_ROW ≤ length R
      → Followed (w + REPORT_ROW) (fitted n w R) l q → Followed w R (n ∷ l) q
  unfolding name_numbers
  followed_one n l w R q h f =
      let row : List ℕ = name_row n.start n.end n.first_token first in
      let R' : List ℕ = fitted n w R in
      let s : R' ≡ (take w R ++ row) ++ drop (w + REPORT_ROW) R = written_row n w R h in
      let a : length (take w R ++ row) ≡ w + REPORT_ROW = length-append (take w R) row ∙ ap (λ k. k + REPORT_ROW) (length-take-le w R (omega (arith, h))) in
      let t : take (w + REPORT_ROW) R' ≡ take w R ++ row = ap (take (w + REPORT_ROW)) s ∙ take_at (take w R ++ row) (drop (w + REPORT_ROW) R) (w + REPORT_ROW) a in
      let k : ℕ = length l * REPORT_ROW in
      let d : drop (w + REPORT_ROW + k) R' ≡ drop (w + suc (length l) * REPORT_ROW) R =
      ap (drop (w + REPORT_ROW + k)) s
      ∙ ap (λ j. drop (j + k) ((take w R ++ row) ++ drop (w + REPORT_ROW) R)) (sym a)
      ∙ drop-append-add (take w R ++ row) (drop (w + REPORT_ROW) R) k
      ∙ drop-drop k (w + REPORT_ROW) R
      ∙ ap (λ j. drop j R) (let z : w + REPORT_ROW + k ≡ w + suc (length l) * REPORT_ROW = omega arith in z) in
      record {
        names = f.names ∙ ap (λ (j : ℕ). Ok j) (let z : w + REPORT_ROW + k ≡ w + suc (length l) * REPORT_ROW = omega arith in z);
        reports =
            f.reports
            ∙ ap (λ (x : List ℕ). x ++ (name_numbers first l ++ drop (w + REPORT_ROW + k) R')) t
            ∙ ap (λ (x : List ℕ). (take w R ++ row) ++ (name_numbers first l ++ x)) d
            ∙ append_assoc (take w R) row (name_numbers first l ++ drop (w + suc (length l) * REPORT_ROW) R);
      }

  leaves_less : (n : NameAt) (w : ℕ) (R : List ℕ) (room : ℕ) → Leaves w (suc room) R → Leaves (w + REPORT_ROW) room (fitted n w R)
  leaves_less n w R room h =
      let e : length (fitted n w R) ≡ length R = put_size w n.start n.end n.first_token first R in
      record { enough = omega (arith, h.enough); no_more = omega (arith, h.no_more) }

  -- one that is pushed
  abbrev name_of : Back → NameAt
  name_of x = forward (length all) (byte_count all) x

  push_fits : (x : Back) (w : ℕ) (R : List ℕ) (room : ℕ) → Leaves w (suc room) R
      → pushed F (name_of x).start (name_of x).end (name_of x).first_token (so_far w R) ≡ so_far (w + REPORT_ROW) (fitted (name_of x) w R)
  unfolding pushed reported
  push_fits x w R room h =
      let e : leb w (length R) ≡ true = le-leb w (length R) (omega (arith, h.enough)) in
      let f : leb REPORT_ROW (length R - w) ≡ true = le-leb REPORT_ROW (length R - w) (omega (arith, h.enough)) in
      let g : low (length all - x.tokens_left) ≡ length all - x.tokens_left = mod-eq_of_lt (omega (arith, F.many)) in
      rw (e, f, g) refl

  push_stops : (x : Back) (w : ℕ) (R : List ℕ) → Leaves w 0 R
      → pushed F (name_of x).start (name_of x).end (name_of x).first_token (so_far w R)
      ≡ record { names = Err (no_room w (name_of x).first_token); reports = R }
  unfolding pushed reported
  push_stops x w R h =
      let e : leb w (length R) ≡ true = le-leb w (length R) (omega (arith, h.enough)) in
      let f : leb REPORT_ROW (length R - w) ≡ false = lt-leb REPORT_ROW (length R - w) (omega (arith, h.no_more)) in
      rw (e, f) refl

  -- whether a Name breaks the rule, as the code tests it
  abbrev test : Back → Bool
  test x = breaks bytes (name_of x).start (name_of x).end

  named_cons : (x : Back) (l : List Back) (c : Bool) → test x ≡ c → named (x ∷ l) ≡ cond c (name_of x ∷ named l) (named l)
  unfolding forwards
  named_cons x l c e = breaks_or bytes (name_of x) (forwards (length all) (byte_count all) l) c (sym (breaks_rule bytes (name_of x).start (name_of x).end (omega (arith, covered))) ∙ e)

  abbrev one : Back → Rep → Rep
  one x r = pushed F (name_of x).start (name_of x).end (name_of x).first_token r

  emits_cons : (x : Back) (l : List Back) (r : Rep) (c : Bool) → test x ≡ c → emits F (x ∷ l) r ≡ emits F l (cond c (one x r) r)
  unfolding emits emit
  emits_cons x l r c e = ap (λ (b : Bool). emits F l (cond b (one x r) r)) e

  -- ALL FIT
  pub all_follow : (l : List Back) (room w : ℕ) (R : List ℕ) → Leaves w room R → names_fit room (named l) ≡ accepted
      → Followed w R (named l) (emits F l (so_far w R))
  unfolding names_fit emits forwards breaking name_numbers
  all_follow [] room w R h f =
      let z : w + 0 * REPORT_ROW ≡ w = omega arith in
      record {
        names = ap (λ (j : ℕ). Ok j) (sym z);
        reports = sym (take-append-drop w R) ∙ ap (λ k. take w R ++ drop k R) (sym z);
      }
  all_follow (x ∷ l) room w R h f = go (test x) refl room h f (λ m v S g e. all_follow l m v S g e)
    where
      go : (c : Bool) → test x ≡ c → (room : ℕ) → Leaves w room R → names_fit room (named (x ∷ l)) ≡ accepted
          → ((m v : ℕ) (S : List ℕ) → Leaves v m S → names_fit m (named l) ≡ accepted → Followed v S (named l) (emits F l (so_far v S)))
          → Followed w R (named (x ∷ l)) (emits F (x ∷ l) (so_far w R))
      go false e room h f k =
          subst (λ (v : List NameAt). Followed w R v (emits F (x ∷ l) (so_far w R))) (sym (named_cons x l false e))
          (subst (Followed w R (named l)) (sym (emits_cons x l (so_far w R) false e)) (k room w R h (ap (names_fit room) (sym (named_cons x l false e)) ∙ f)))
      go true e zero h f k =
          let y : refused (no_report_room (name_of x).first_token) ≡ accepted = ap (names_fit 0) (sym (named_cons x l true e)) ∙ f in
          absurd (refused_not _ y)
      go true e (suc room) h f k =
          subst (λ (v : List NameAt). Followed w R v (emits F (x ∷ l) (so_far w R))) (sym (named_cons x l true e))
          (subst (Followed w R (name_of x ∷ named l)) (sym (emits_cons x l (so_far w R) true e ∙ ap (emits F l) (push_fits x w R room h)))
          (followed_one (name_of x) (named l) w R _ (omega (arith, h.enough))
          (k room (w + REPORT_ROW) (fitted (name_of x) w R) (leaves_less (name_of x) w R room h) (ap (names_fit (suc room)) (sym (named_cons x l true e)) ∙ f))))

  -- THE FIRST THAT DOES NOT FIT
  pub first_stops : (l : List Back) (room w : ℕ) (R : List ℕ) (m : ℕ) → Leaves w room R → names_fit room (named l) ≡ refused (no_report_room m)
      → Stopped m (emits F l (so_far w R))
  unfolding names_fit emits forwards breaking place_of
  first_stops [] room w R m h f = absurd (refused_not _ (sym f))
  first_stops (x ∷ l) room w R m h f = go (test x) refl room h f (λ n v S g e. first_stops l n v S m g e)
    where
      place_in : Verdict → ℕ
      place_in accepted = 0
      place_in (refused q) = place_of q

      go : (c : Bool) → test x ≡ c → (room : ℕ) → Leaves w room R → names_fit room (named (x ∷ l)) ≡ refused (no_report_room m)
          → ((n v : ℕ) (S : List ℕ) → Leaves v n S → names_fit n (named l) ≡ refused (no_report_room m) → Stopped m (emits F l (so_far v S)))
          → Stopped m (emits F (x ∷ l) (so_far w R))
      go false e room h f k =
          subst (Stopped m) (sym (emits_cons x l (so_far w R) false e)) (k room w R h (ap (names_fit room) (sym (named_cons x l false e)) ∙ f))
      go true e zero h f k =
          let y : (name_of x).first_token ≡ m = ap place_in (ap (names_fit 0) (sym (named_cons x l true e)) ∙ f) in
          let z : emits F (x ∷ l) (so_far w R) ≡ record { names = Err (no_room w m); reports = R } =
          emits_cons x l (so_far w R) true e
          ∙ ap (emits F l) (push_stops x w R h)
          ∙ emits_stopped l (no_room w (name_of x).first_token) R
          ∙ ap (λ (j : ℕ). record { names = Err (no_room w j); reports = R }) y in
          record { written = w; names = ap (λ (q : Rep). q.names) z }
      go true e (suc room) h f k =
          subst (Stopped m) (sym (emits_cons x l (so_far w R) true e ∙ ap (emits F l) (push_fits x w R room h)))
          (k room (w + REPORT_ROW) (fitted (name_of x) w R) (leaves_less (name_of x) w R room h) (ap (names_fit (suc room)) (sym (named_cons x l true e)) ∙ f))
