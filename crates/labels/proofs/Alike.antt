-- Reports that are alike: as many numbers written, the same numbers up to there, the same that did not fit. What stands past the
-- numbers written does not count: a DtPhandle that turns out to be braced leaves something there.
use Rattle.std.proofs.Common.{ℕ, ◌+◌, ◌-◌, ◌≤◌, arith, ◌≡◌, refl, ap, sym, ◌∙◌, Bool, true, false, cond, List, [], ◌∷◌, ◌++◌, leb, length, take, drop, length-append, length-take-le, take_at, take-take, leb-true, Ok, Err, subst}
use mathlib.Core.Bool.{false≢true}
use lib.Seq.{sets, sets-eq, length-sets, take-append-le}
use Rattle.basics.specs.Word.{low}
use Rattle.basics.proofs.Tests.{and_left, and_right}
use Rattle.definitions.specs.Layout.{REPORT_ROW}
use Rattle.definitions.specs.Token.{Token, byte_count}
use Rattle.laws.proofs.NamesFound.{Back}
use Rattle.machine.specs.Machine.{fits}
use Rattle.layout.specs.Rows.{put_row}
use Rattle.labels.specs.Model.{breaks, Names, no_room, name_row, put_name, reported}
use Rattle.labels.proofs.Standing.{Rep, count, held, rep, File, pushed, emit, emits}

pub record Alike (r q : Rep) : Type 0 where
  pub names : r.names ≡ q.names
  pub size : length r.reports ≡ length q.reports
  pub rows : take (count r.names) r.reports ≡ take (count r.names) q.reports

pub alike_self : (r : Rep) → Alike r r
alike_self r = record { names = refl; size = refl; rows = refl }

pub alike_by : (r q : Rep) → r ≡ q → Alike r q
alike_by r q e = subst (Alike r) e (alike_self r)

pub alike_then : (r q p : Rep) → Alike r q → Alike q p → Alike r p
alike_then r q p a b =
    record {
      names = a.names ∙ b.names;
      size = a.size ∙ b.size;
      rows =
          a.rows
          ∙ ap (λ (s : Names). take (count s) q.reports) a.names
          ∙ b.rows
          ∙ ap (λ (s : Names). take (count s) p.reports) (sym a.names);
    }

-- a row that fits
fits_room : (l w : ℕ) → fits l w REPORT_ROW ≡ true → w + REPORT_ROW ≤ l
fits_room l w h =
    let a : w ≤ l = leb-true w l (and_left _ _ h) in
    let b : REPORT_ROW ≤ l - w = leb-true REPORT_ROW (l - w) (and_right (leb w l) _ h) in
    omega arith

row_put : (w start end mark first : ℕ) (R : List ℕ) → fits (length R) w REPORT_ROW ≡ true
    → put_name w start end mark first R ≡ (take w R ++ name_row start end mark first) ++ drop (w + REPORT_ROW) R
unfolding put_row
row_put w start end mark first R h =
    let row : List ℕ = name_row start end mark first in
    ap (λ (b : Bool). cond b (sets R w row) R) h ∙ sets-eq row R w (fits_room (length R) w h)

row_ends : (w start end mark first : ℕ) (R : List ℕ) → fits (length R) w REPORT_ROW ≡ true → length (take w R ++ name_row start end mark first) ≡ w + REPORT_ROW
row_ends w start end mark first R h =
    let e : length (take w R) ≡ w = length-take-le w R (let g : w + REPORT_ROW ≤ length R = fits_room (length R) w h in omega arith) in
    length-append (take w R) (name_row start end mark first) ∙ ap (λ n. n + REPORT_ROW) e

pub put_size : (w start end mark first : ℕ) (R : List ℕ) → length (put_name w start end mark first R) ≡ length R
unfolding put_row
put_size w start end mark first R = go (fits (length R) w REPORT_ROW)
  where
    go : (b : Bool) → length (cond b (sets R w (name_row start end mark first)) R) ≡ length R
    go true = length-sets R w (name_row start end mark first)
    go false = refl

-- what stands before it stays
put_before : (n w start end mark first : ℕ) (R : List ℕ) → n ≤ w → take n (put_name w start end mark first R) ≡ take n R
unfolding put_row
put_before n w start end mark first R l = go (fits (length R) w REPORT_ROW) refl
  where
    row : List ℕ
    row = name_row start end mark first

    go : (b : Bool) → fits (length R) w REPORT_ROW ≡ b → take n (cond b (sets R w row) R) ≡ take n R
    go false e = refl
    go true e =
        let room : w + REPORT_ROW ≤ length R = fits_room (length R) w e in
        let t : length (take w R) ≡ w = length-take-le w R (omega arith) in
        let m : length (take w R ++ row) ≡ w + REPORT_ROW = row_ends w start end mark first R e in
        ap (take n) (sets-eq row R w room)
        ∙ take-append-le n (take w R ++ row) (drop (w + REPORT_ROW) R) (omega arith)
        ∙ take-append-le n (take w R) row (omega arith)
        ∙ take-take n w R l

module _ (F : File) where
  abbrev all : List Token
  all = F.all

  abbrev first : ℕ
  first = F.first

  -- ---------------------------------------------------------------- alike before, alike after

  push_alike : (start end at : ℕ) (r q : Rep) → Alike r q → Alike (pushed F start end at r) (pushed F start end at q)
  unfolding pushed reported
  push_alike start end at r q a =
      subst (λ (s : Names). Alike (pushed F start end at r) (pushed F start end at (record { names = s; reports = Q }))) a.names
      (go r.names a.rows)
    where
      R : List ℕ
      R = r.reports

      Q : List ℕ
      Q = q.reports

      more : ℕ → List ℕ → Rep
      more w l = record { names = Ok (w + REPORT_ROW); reports = put_name w start end (low at) first l }

      none : ℕ → List ℕ → Rep
      none w l = record { names = Err (no_room w at); reports = l }

      row : List ℕ
      row = name_row start end (low at) first

      both : (w : ℕ) → take w R ≡ take w Q → fits (length R) w REPORT_ROW ≡ true → Alike (more w R) (more w Q)
      both w same h =
          let g : fits (length Q) w REPORT_ROW ≡ true = ap (λ n. fits n w REPORT_ROW) (sym a.size) ∙ h in
          record {
            names = refl;
            size = put_size w start end (low at) first R ∙ a.size ∙ sym (put_size w start end (low at) first Q);
            rows =
                ap (take (w + REPORT_ROW)) (row_put w start end (low at) first R h)
                ∙ take_at (take w R ++ row) (drop (w + REPORT_ROW) R) (w + REPORT_ROW) (row_ends w start end (low at) first R h)
                ∙ ap (λ (l : List ℕ). l ++ row) same
                ∙ sym (take_at (take w Q ++ row) (drop (w + REPORT_ROW) Q) (w + REPORT_ROW) (row_ends w start end (low at) first Q g))
                ∙ sym (ap (take (w + REPORT_ROW)) (row_put w start end (low at) first Q g));
          }

      go : (s : Names) → take (count s) R ≡ take (count s) Q
          → Alike (pushed F start end at (record { names = s; reports = R })) (pushed F start end at (record { names = s; reports = Q }))
      go (Ok w) same = by (fits (length R) w REPORT_ROW) (fits (length Q) w REPORT_ROW) refl (ap (λ n. fits n w REPORT_ROW) (sym a.size))
        where
          by : (b c : Bool) → fits (length R) w REPORT_ROW ≡ b → c ≡ b
              → Alike (rep (cond b (held (more w R)) (held (none w R)))) (rep (cond c (held (more w Q)) (held (none w Q))))
          by true true h f = both w same h
          by true false h f = absurd (false≢true f)
          by false true h f = absurd (false≢true (sym f))
          by false false h f = record { names = refl; size = a.size; rows = same }
      go (Err e) same = record { names = refl; size = a.size; rows = same }

  pub emits_alike : (l : List Back) (r q : Rep) → Alike r q → Alike (emits F l r) (emits F l q)
  unfolding emits emit
  emits_alike [] r q a = a
  emits_alike (x ∷ l) r q a = emits_alike l (emit F x r) (emit F x q) (go (breaks F.bytes (byte_count all - x.bytes_left) (byte_count all - x.bytes_after)))
    where
      one : Rep → Rep
      one p = pushed F (byte_count all - x.bytes_left) (byte_count all - x.bytes_after) (length all - x.tokens_left) p

      go : (b : Bool) → Alike (cond b (one r) r) (cond b (one q) q)
      go true = push_alike _ _ _ r q a
      go false = a

  -- ---------------------------------------------------------------- what was written is not counted

  -- the same reports, in the buffer that others left
  abbrev pub back_to : Rep → List ℕ → Rep
  back_to r l = record { names = r.names; reports = l }

  pub record Past (n : ℕ) (r q : Rep) : Type 0 where
    pub size : length q.reports ≡ length r.reports
    pub rows : take n q.reports ≡ take n r.reports
    pub further : n ≤ count q.names

  push_past : (n start end at : ℕ) (r : Rep) → n ≤ count r.names → Past n r (pushed F start end at r)
  unfolding pushed reported
  push_past n start end at r l = go r.names l
    where
      R : List ℕ
      R = r.reports

      go : (s : Names) → n ≤ count s → Past n (record { names = s; reports = R }) (pushed F start end at (record { names = s; reports = R }))
      go (Ok w) l = by (fits (length R) w REPORT_ROW)
        where
          more : Rep
          more = record { names = Ok (w + REPORT_ROW); reports = put_name w start end (low at) first R }

          none : Rep
          none = record { names = Err (no_room w at); reports = R }

          by : (b : Bool) → Past n (record { names = Ok w; reports = R }) (rep (cond b (held more) (held none)))
          by true = record { size = put_size w start end (low at) first R; rows = put_before n w start end (low at) first R l; further = omega arith }
          by false = record { size = refl; rows = refl; further = l }
      go (Err e) l = record { size = refl; rows = refl; further = l }

  emits_past : (n : ℕ) (l : List Back) (r : Rep) → n ≤ count r.names → Past n r (emits F l r)
  unfolding emits emit
  emits_past n [] r h = record { size = refl; rows = refl; further = h }
  emits_past n (x ∷ l) r h = go (breaks F.bytes (byte_count all - x.bytes_left) (byte_count all - x.bytes_after)) (λ q g. emits_past n l q g)
    where
      one : Rep
      one = pushed F (byte_count all - x.bytes_left) (byte_count all - x.bytes_after) (length all - x.tokens_left) r

      go : (b : Bool) → ((q : Rep) → n ≤ count q.names → Past n q (emits F l q)) → Past n r (emits F l (cond b one r))
      go false k = k r h
      go true k =
          let p : Past n r one = push_past n _ _ _ r h in
          let q : Past n one (emits F l one) = k one p.further in
          record { size = q.size ∙ p.size; rows = q.rows ∙ p.rows; further = q.further }

  pub emits_undone : (l : List Back) (r : Rep) → Alike r (back_to r (emits F l r).reports)
  emits_undone l r =
      let p : Past (count r.names) r (emits F l r) = emits_past (count r.names) l r (omega arith) in
      record { names = refl; size = sym p.size; rows = sym p.rows }
