-- Commands of no name of the table, and those that are not simulated. Assumes nothing.
use Rattle.std.specs.Prelude.{ℕ, ◌≤◌, ◌<◌, min, ◌≡◌, Bool, true, false, List, [], leb, length, take, drop}
use Rattle.std.proofs.Common.{arith, sym, ap, ◌∙◌, length-take, take-take, take_all, leb-true, leb-false}
use Rattle.std.proofs.Math.Path.{refl}
use Rattle.text.specs.Ascii.{Bytes, ascii}
use Rattle.text.specs.Compare.{same}
use Rattle.spans.specs.Span.{◌⋯◌, bytes, pair_at}
use Rattle.spans.specs.Reach.{reach, one_of}
use Rattle.spans.specs.declared.span.Span.{Span}
use Rattle.model.specs.Names.{Command, is_query}
use Rattle.model.specs.Records.{Model}
use Rattle.model.specs.Commands.{warned, unsupported, carried_out}
use Rattle.store.specs.Strings.{string, stored_of}
use Rattle.store.specs.View.{Store, text_of, model_of}
use Rattle.store.specs.declared.stored.Stored.{Stored}
use Rattle.store.specs.declared.state.State.{State}
use Rattle.made.specs.declared.Made.{Made}
use Rattle.made.specs.Made.{fine_made, warned_made, reach_of, Ready, Did}
use Rattle.made.specs.Dids.{did_nothing, did_warn}

-- the front of a front
take_min : (m n : ℕ) (l : Bytes) (b : Bool) → leb m n ≡ b → take (min m n) l ≡ take m (take n l)
take_min m n l true e =
    let h : m ≤ n = leb-true m n e in
    let q : min m n ≡ m = omega arith in
    rw (q, take-take m n l h)
take_min m n l false e =
    let h : n < m = leb-false m n e in
    let q : min m n ≡ n = omega arith in
    rw (q, take_all m (take n l) (rw (length-take n l) (omega arith)))

pub query_is : (mem : Bytes) (w : Span) (k : ℕ) (b : Bool) → k ≡ min 6 w.len → b ≡ same (bytes mem (w.at ⋯ k)) (ascii "query_") → b ≡ is_query (bytes mem w)
unfolding bytes
query_is mem w k b e h = h ∙ ap (λ (j : ℕ). same (take j (drop w.at mem)) (ascii "query_")) e ∙ ap (λ (t : Bytes). same t (ascii "query_")) (take_min 6 w.len (drop w.at mem) (leb 6 w.len) refl)

module _ (long : ℕ) (mem : Bytes) (words : List ℕ) (st : Store) (log : Bytes) (s : State) (v : Ready long mem words 1 st s) where
  -- the command's name
  abbrev w : Bytes
  w = bytes mem (pair_at words 0)

  abbrev now : Model
  now = model_of mem st s log

  name_ends : reach_of long (stored_of (pair_at words 0)) ≤ length mem
  name_ends = omega (arith, v.line, one_of (reach long) words 1 0 (omega arith))

  told_query : is_query w ≡ true → unsupported now w ≡ now
  unfolding unsupported
  told_query e = rw e

  told_warned : is_query w ≡ false → unsupported now w ≡ warned now (text_of 8 (string mem (stored_of (pair_at words 0))))
  unfolding unsupported text_of
  told_warned e = rw e

  told_parsed : carried_out Command.not_simulated now w [] ≡ warned now (text_of 7 (string mem (stored_of (pair_at words 0))))
  unfolding text_of
  told_parsed = refl

  pub query_passes : (p : Span) (b : Bool) (m : Made) → p ≡ pair_at words 0 → b ≡ is_query (bytes mem p) → b ≡ true → m ≡ fine_made s → Did long mem st log s m (unsupported now w)
  query_passes p b m e h t g =
      let q : is_query w ≡ true = ap (λ (u : Span). is_query (bytes mem u)) (sym e) ∙ sym h ∙ t in
      rw (g, told_query q) (did_nothing long mem st log s v.shaped v.bounded)

  pub unknown_warned : (p : Span) (b : Bool) (x : Stored) (m : Made) → p ≡ pair_at words 0 → b ≡ is_query (bytes mem p) → b ≡ false → x ≡ stored_of p → m ≡ warned_made s 8 x → Did long mem st log s m (unsupported now w)
  unknown_warned p b x m e h t ex g =
      let q : is_query w ≡ false = ap (λ (u : Span). is_query (bytes mem u)) (sym e) ∙ sym h ∙ t in
      rw (g, ex, e, told_warned q) (did_warn long mem st log s v.shaped v.bounded 8 (stored_of (pair_at words 0)) (omega arith) (omega arith) name_ends)

  pub parsed_warned : (p : Span) (x : Stored) (m : Made) → p ≡ pair_at words 0 → x ≡ stored_of p → m ≡ warned_made s 7 x → Did long mem st log s m (carried_out Command.not_simulated now w [])
  parsed_warned p x m e ex g = rw (g, ex, e, told_parsed) (did_warn long mem st log s v.shaped v.bounded 7 (stored_of (pair_at words 0)) (omega arith) (omega arith) name_ends)
