-- The next command, split and resolved: laws as the needs ask them. Assumes nothing.
use Rattle.std.specs.Prelude.{Option, Some, None, Result, Ok, Err}
use Rattle.substitution.specs.declared.put.Full.{Full}
use Rattle.substitution.specs.Room.{full}
use Prim.Native.Nat.{◌*◌, ◌+◌, ◌-◌, ◌<◌, ◌^◌, ◌≤◌, ℕ}
use mathlib.Core.List.{List, [], ◌∷◌}
use mathlib.Core.Bool.{Bool, ◌&&◌, cond, false, true}
use mathlib.Core.Path.{◌∙◌, ◌≡◌, ap, refl, sym}
use native.Mathlib.Omega.{arith}
use lib.ListN.{drop, drop_of_length-le, length, length-append, length-drop, length-take, take}
use lib.Seq.{drop-drop}
use lib.Dec.{leb}
use borrow.Author.Rules.{rules}
use borrow.Author.Tests.{le-leb, leb-false, leb-true, lt-leb}
use Rattle.commands.specs.Stored.{AllAt, AllOver, Filed, NextOf, Resolves, Splits, written_words}
use Rattle.commands.specs.Reading.{most_words, nothing, outcome, parted, parts, read, refused, result, results, too_many}
use Rattle.tcl.specs.Substitution.{Variable, cost, costs, has_dollar, value, values}
use Rattle.spans.specs.Frame.{last_end}
use Rattle.tcl.specs.Commands.{commands}
use Rattle.tcl.specs.Words.{Word, plain}
use Rattle.text.specs.Lists.{take_none}
use Rattle.commands.proofs.Placing.{front_is}
use Rattle.commands.proofs.Readings.{reading_end}
use Rattle.spans.specs.Span.{pairs}

-- ---- what the parts say of the commands

parted_none : (cs : List (List Word)) → nothing ≡ parted cs → cs ≡ []
unfolding parted
parted_none [] e = refl
parted_none (ws ∷ cs) e = go (leb (length ws) most_words) e
  where
    go : (t : Bool) → nothing ≡ cond t (parts ws cs) too_many → ws ∷ cs ≡ []
    go true e = let z : ◌≡◌ {A = ℕ} 0 1 = cc in absurd (omega arith)
    go false e = let z : ◌≡◌ {A = ℕ} 0 1 = cc in absurd (omega arith)

refused_by_lem : (vs : List Variable) (o limit : ℕ) (cs : List (List Word)) → too_many ≡ parted cs → refused ≡ outcome vs o limit cs
unfolding parted outcome
refused_by_lem vs o limit [] e = let z : ◌≡◌ {A = ℕ} 0 1 = cc in absurd (omega arith)
refused_by_lem vs o limit (ws ∷ cs) e = go (leb (length ws) most_words) e
  where
    go : (t : Bool) → too_many ≡ cond t (parts ws cs) too_many → refused ≡ cond (t && leb (o + costs vs ws) limit) (read (values vs ws) cs (o + costs vs ws)) refused
    go true e = let z : ◌≡◌ {A = ℕ} 0 1 = cc in absurd (omega arith)
    go false e = refl

parted_some : (cs : List (List Word)) (ws : List Word) (rest : List (List Word)) → parts ws rest ≡ parted cs → (cs ≡ ws ∷ rest) × (length ws ≤ most_words)
unfolding parted
parted_some [] ws rest e = let z : ◌≡◌ {A = ℕ} 0 1 = cc in absurd (omega arith)
parted_some (vs ∷ cs) ws rest e = go (leb (length vs) most_words) refl e
  where
    go : (t : Bool) → leb (length vs) most_words ≡ t → parts ws rest ≡ cond t (parts vs cs) too_many → (vs ∷ cs ≡ ws ∷ rest) × (length ws ≤ most_words)
    go true g e =
        let h : length vs ≤ most_words = leb-true (length vs) most_words g in
        let q : ws ≡ vs = cc in
        (cc, rw q h)
    go false g e = let z : ◌≡◌ {A = ℕ} 0 1 = cc in absurd (omega arith)

-- ---- the result bytes

result_size : (vs : List Variable) (w : Word) → length (result vs w) ≡ cost vs w
result_size vs (Word.braced b) = refl
result_size vs (Word.quoted b) = refl
result_size vs (Word.bracketed b) = refl
result_size vs (Word.plain b) = go (has_dollar b)
  where
    go : (t : Bool) → length (cond t (value vs (plain b)) []) ≡ cond t (length (value vs (plain b))) 0
    go true = refl
    go false = refl

results_size : (vs : List Variable) (ws : List Word) → length (results vs ws) ≡ costs vs ws
unfolding results costs
results_size vs [] = refl
results_size vs (w ∷ ws) = length-append (result vs w) (results vs ws) ∙ rw (result_size vs w, results_size vs ws)

-- ---- the text is a part of the files

module _ (files t : List ℕ) (base len : ℕ) (e : t ≡ take len (drop base files)) where
  short : length t ≤ length files
  short =
      let l : length (take len (drop base files)) ≤ length (drop base files) = rw length-take (omega arith) in
      omega (arith, ap length e, l, length-drop base files)

  pub text_short : (area : List ℕ) → length files + length area < 2 ^ 32 → length t < 2 ^ 32
  text_short area h = omega (arith, short)

  pub text_filed : (at : ℕ) (k₀ k : List ℕ) (p : Result (Option (ℕ × ℕ)) Full) (n next : ℕ) → Splits t at k₀ k p → p ≡ Ok (Some (n, next)) → Filed files base t
  text_filed at k₀ k p n next s g =
      record {
        is = sym (rw e (front_is (take len (drop base files)) (drop base files) len refl));
        inside = go (leb (length files) base) refl;
      }
    where
      some : commands (drop at t) ≡ written_words t k 0 n ∷ commands (drop next t)
      some = (parted_some (commands (drop at t)) (written_words t k 0 n) (commands (drop next t)) (rw g at s.is)).0

      none : t ≡ [] → commands (drop at t) ≡ []
      none z = rw z (reading_end [] at [] (omega arith))

      empty : t ≡ [] → commands (drop at t) ≡ written_words t k 0 n ∷ commands (drop next t) → ⊥
      empty z f = absurd (omega (arith, ap length (sym (none z) ∙ f)))

      go : (b : Bool) → leb (length files) base ≡ b → base + length t ≤ length files
      go false f =
          let h : base < length files = leb-false (length files) base f in
          let l : length (take len (drop base files)) ≤ length (drop base files) = rw length-take (omega arith) in
          omega (arith, ap length e, l, length-drop base files)
      go true f =
          let h : length files ≤ base = leb-true (length files) base f in
          let z : t ≡ [] = e ∙ rw (drop_of_length-le files {i = base} h) (take_none len) in
          absurd (empty z some)

-- ---- the answers

module _ (files t : List ℕ) (vs : List Variable) (at o limit : ℕ) (k₀ k : List ℕ) (p : Result (Option (ℕ × ℕ)) Full) (s : Splits t at k₀ k p) where
  next_none' : (l : List ℕ) → p ≡ Ok None → NextOf files t at vs l l o limit k₀ k (Ok None)
  unfolding outcome
  next_none' l g =
      let c : commands (drop at t) ≡ [] = parted_none (commands (drop at t)) (rw g at s.is) in
      record { is = sym (rw c); lent = record { area = refl; nums = rw g at s.back } }

  next_many' : (l : List ℕ) → p ≡ Err full → NextOf files t at vs l l o limit k₀ k (Err full)
  next_many' l g =
      record { is = refused_by_lem vs o limit (commands (drop at t)) (rw g at s.is); lent = record { kept = refl; back = refl; rest = rw g at s.back } }

  module _ (n next : ℕ) (g : p ≡ Ok (Some (n, next))) where
    ws : List Word
    ws = written_words t k 0 n

    are : (commands (drop at t) ≡ ws ∷ commands (drop next t)) × (length ws ≤ most_words)
    unfolding ws
    are = parted_some (commands (drop at t)) (written_words t k 0 n) (commands (drop next t)) (rw g at s.is)

    pub split_few : n ≤ 128
    split_few = rw g at s.few

    pub split_inside : last_end (pairs k 0 n) ≤ length t
    split_inside = rw g at s.inside

    split_back : drop (2 * n) k ≡ drop (2 * n) k₀
    split_back = rw g at s.back

    module _ (l₀ l k' : List ℕ) (r : Result ℕ Full) (q : Resolves files l₀ l k k' vs o limit (written_words t k 0 n) n r) where
      next_over' : r ≡ Err full → NextOf files t at vs l₀ l o limit k₀ k' (Err full)
      unfolding outcome ws
      next_over' h =
          let d : AllOver l₀ l k k' vs o limit (written_words t k 0 n) n = rw h at q in
          let c : limit < o + costs vs (written_words t k 0 n) = rw (results_size vs (written_words t k 0 n)) at d.over in
          let x : 2 * n + (256 - 2 * n) ≡ 256 = omega (arith, split_few) in
          record {
            is = sym (rw (are.0, lt-leb (o + costs vs (written_words t k 0 n)) limit c, le-leb (length (written_words t k 0 n)) most_words are.1));
            lent = record {
              kept = d.kept;
              back = d.back;
              rest = sym (drop-drop (256 - 2 * n) (2 * n) k' ∙ rw x) ∙ ap (drop (256 - 2 * n)) (d.rest ∙ split_back) ∙ drop-drop (256 - 2 * n) (2 * n) k₀ ∙ rw x;
            };
          }

      next_read' : (e : ℕ) → r ≡ Ok e → NextOf files t at vs l₀ l o limit k₀ k' (Ok (Some (record { count = n; next = next; end = e })))
      unfolding outcome ws
      next_read' e h =
          let d : AllAt files l₀ l k k' vs o limit (written_words t k 0 n) n e = rw h at q in
          let c : e ≡ o + costs vs (written_words t k 0 n) = d.wrote.ends ∙ rw (results_size vs (written_words t k 0 n)) in
          let b : o + costs vs (written_words t k 0 n) ≤ limit = rw c at d.fits in
          record {
            is = sym (rw (are.0, le-leb (o + costs vs (written_words t k 0 n)) limit b, le-leb (length (written_words t k 0 n)) most_words are.1, ← c, d.are));
            lent = record {
              wrote = rw are.0 d.wrote;
              inside = d.inside;
              rest = d.rest ∙ split_back;
            };
          }

module _ (files : List ℕ) (base len : ℕ) (vs : List Variable) (at o limit : ℕ) (t k₀ k : List ℕ) (p : Result (Option (ℕ × ℕ)) Full) (s : Splits t at k₀ k p) (f : t ≡ take len (drop base files)) where
  pub next_none : (l : List ℕ) → p ≡ Ok None → NextOf files (take len (drop base files)) at vs l l o limit k₀ k (Ok None)
  next_none l g = rw f at (next_none' files t vs at o limit k₀ k p s l g)

  pub next_many : (l : List ℕ) → p ≡ Err full → NextOf files (take len (drop base files)) at vs l l o limit k₀ k (Err full)
  next_many l g = rw f at (next_many' files t vs at o limit k₀ k p s l g)

  module _ (n next : ℕ) (g : p ≡ Ok (Some (n, next))) (l₀ l k' : List ℕ) (r : Result ℕ Full) (q : Resolves files l₀ l k k' vs o limit (written_words t k 0 n) n r) where
    pub next_over : r ≡ Err full → NextOf files (take len (drop base files)) at vs l₀ l o limit k₀ k' (Err full)
    next_over h = rw f at (next_over' files t vs at o limit k₀ k p s n next g l₀ l k' r q h)

    pub next_read : (e : ℕ) → r ≡ Ok e → NextOf files (take len (drop base files)) at vs l₀ l o limit k₀ k' (Ok (Some (record { count = n; next = next; end = e })))
    next_read e h = rw f at (next_read' files t vs at o limit k₀ k p s n next g l₀ l k' r q e h)

pub few_is : (t : List ℕ) (at : ℕ) (k₀ k : List ℕ) (p : Result (Option (ℕ × ℕ)) Full) (n next : ℕ) → Splits t at k₀ k p → p ≡ Ok (Some (n, next)) → n ≤ 128
few_is t at k₀ k p n next s g = rw g at s.few

pub nums_is : (t : List ℕ) (at : ℕ) (k₀ k : List ℕ) (p : Result (Option (ℕ × ℕ)) Full) (n next : ℕ) → Splits t at k₀ k p → p ≡ Ok (Some (n, next)) → 256 ≤ length k₀ → 2 * n ≤ length k
nums_is t at k₀ k p n next s g h = let f : n ≤ 128 = rw g at s.few in omega (arith, s.long)

pub inside_is : (t : List ℕ) (at : ℕ) (k₀ k : List ℕ) (p : Result (Option (ℕ × ℕ)) Full) (n next : ℕ) → Splits t at k₀ k p → p ≡ Ok (Some (n, next)) → last_end (pairs k 0 n) ≤ length t
inside_is t at k₀ k p n next s g = rw g at s.inside

pub ruleset nexts = (rules, text_short, text_filed, few_is, nums_is, inside_is, next_none, next_many, next_over, next_read)
