-- The turns of the loops along a chain of starts.
use Rattle.std.proofs.Common.{◌≡◌, ℕ, zero, suc, ◌+◌, ◌/◌, ◌<◌, List, [], length, Option, Some, None, MatchOption, unwrap_or, refl, arith}
use borrow.Author.Tests.{lt-ltb}
use Rattle.basics.specs.Word.{low}
use Rattle.definitions.specs.Layout.{NODE, EVENT_ROW, EVENT_ARGUMENT}
use Rattle.definitions.specs.Parent.{tree_row}
use Rattle.sink_rows.specs.Rows.{put, field, link, links, linksN, open_rows}

-- ---------------------------------------------------------------- links

pub links_more : (events : List ℕ) (j k m n : ℕ) → (k ≡ j + link events j) × (j < k) → n ≡ suc m → linksN n events j ≡ linksN m events k + 1
unfolding linksN
links_more events j k m n h e = rw (e, lt-ltb 0 (link events j) (omega (arith, h.0, h.1)), h.0)

pub links_end : (events : List ℕ) (j n : ℕ) → link events j ≡ 0 → linksN n events j ≡ 0
unfolding linksN
links_end events j zero e = refl
links_end events j (suc n) e = rw (e, linksN)

pub links_all : (events : List ℕ) (j n : ℕ) → n ≡ length events / EVENT_ROW → linksN n events j ≡ links events j
unfolding links
links_all events j n e = rw e

pub next_start : (r : Option ℕ) (j d : ℕ) → MatchOption r (d ≡ 0) (λ k. (k ≡ j + d) × (j < k)) → unwrap_or r j ≡ j + d
next_start None j d h = omega (arith, h)
next_start (Some k) j d h = h.0

-- ---------------------------------------------------------------- the open rows of a chain

pub open_step : (events : List ℕ) (j first byte parent children : ℕ) (trees : List ℕ) (m n : ℕ) → n ≡ suc m
    → open_rows n events j first byte parent children trees
    ≡ open_rows m events (j + link events j) first byte parent children
    (put (low (low (first + m) + 1)) (tree_row NODE (field events j EVENT_ARGUMENT) byte 0 (low (first + m)) []) trees)
unfolding open_rows
open_step events j first byte parent children trees m n e = rw e

pub open_end : (events : List ℕ) (j first byte parent children : ℕ) (trees : List ℕ) (n : ℕ) → n ≡ 0
    → open_rows n events j first byte parent children trees
    ≡ put first (tree_row NODE (field events j EVENT_ARGUMENT) byte children parent []) trees
unfolding open_rows
open_end events j first byte parent children trees n e = rw e
