-- Laws: what is asked of the whole of a command's words holds of the first one, its name. Assumes nothing.
use Rattle.std.specs.Prelude.{ℕ, ◌+◌, ◌≤◌, ◌<◌, ◌^◌, ◌≡◌, List}
use Rattle.std.proofs.Common.{arith}
use Rattle.text.specs.Ascii.{Bytes}
use Rattle.spans.specs.Span.{pair_at, pairs}
use Rattle.spans.specs.Reach.{span_end, last_of, reach, one_of}
use Rattle.spans.specs.declared.span.Span.{Span}
use Rattle.store.specs.View.{Store}
use Rattle.store.specs.declared.state.State.{State}
use Rattle.made.specs.Made.{Line, Ready}

alone : (e : Span → ℕ) (words : List ℕ) (n : ℕ) → 0 < n → last_of e (pairs words 0 1) ≤ last_of e (pairs words 0 n)
unfolding last_of pairs
alone e words n h = omega (arith, one_of e words n 0 h)

pub line_first : (words : List ℕ) (n : ℕ) → 0 < n → Line words n → Line words 1
line_first words n h m = omega (arith, alone span_end words n h, m)

pub ready_first : (long : ℕ) (mem : Bytes) (words : List ℕ) (n : ℕ) (st : Store) (s : State) → 0 < n → Ready long mem words n st s → Ready long mem words 1 st s
ready_first long mem words n st s h v = record { shaped = v.shaped; bounded = v.bounded; line = omega (arith, alone (reach long) words n h, v.line); small = v.small }

-- the name can be stored
pub first_stored : (words : List ℕ) (w : Span) → Line words 1 → w ≡ pair_at words 0 → w.at + w.len < 2 ^ 32
first_stored words w m e = rw e (omega (arith, m, one_of span_end words 1 0 (omega arith)))
