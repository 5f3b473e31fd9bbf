-- Laws: the commands of a file, one after the other. Assumes nothing.
use Rattle.std.specs.Prelude.{ℕ, zero, suc, ◌+◌, ◌-◌, ◌≤◌, ◌<◌, Bool, cond, ◌&&◌, length}
use native.Mathlib.Omega.{arith}
use Rattle.std.proofs.Math.Path.{◌≡◌, refl, ap}
use Rattle.std.proofs.Common.{sym, ◌∙◌, leb-true, le-leb, leb-false}
use Rattle.std.proofs.Math.Bool.{true, false}
use mathlib.Core.List.{List, [], ◌∷◌, ◌++◌}
use Rattle.std.proofs.Math.Dec.{leb}
use Rattle.text.specs.Ascii.{Bytes}
use Rattle.text.specs.Sames.{no_true, both}
use Rattle.model.specs.Records.{Model}
use Rattle.model.specs.Names.{other, command_named}
use Rattle.model.specs.Within.{Counted}
use Rattle.read.specs.Reading.{Reading, refused, line_of}
use Rattle.store.specs.declared.state.State.{State}
use Rattle.held.specs.Held.{counted_of}
use Rattle.loads.specs.Steps.{step_from}
use Rattle.std.proofs.lemmas.Bool.{lt-leb}
use Rattle.tcl.specs.Words.{Word, Kind, kind_of, size_of, words_of}
use Rattle.tcl.specs.Commands.{commands, reading, done as Tcl·done, done_by, kept_by, none_yet}
use Rattle.tcl.specs.Substitution.{Variable, values, costs}
use Rattle.commands.specs.Reading.{Outcome, ended, outcome}
use Rattle.commands.specs.Reading as Next
use Rattle.read.specs.Reading.{command}
use Rattle.held.specs.Laws.{begun_at}

-- ---- every command has a word
abbrev Each : List (List Word) → Type 0
Each [] = Unit {0}
Each (c ∷ cs) = (0 < length c) × Each cs

each_append : (xs ys : List (List Word)) → Each xs → Each ys → Each (xs ++ ys)
each_append [] ys v w = w
each_append (x ∷ xs) ys v w = (v.0, each_append xs ys v.1 w)

each_done : (ws : List Word) → Each (Tcl·done ws)
each_done [] = tt
each_done (w ∷ ws) = (omega arith, tt)

each_by : (k : Kind) (ws : List Word) → Each (done_by k ws)
each_by Kind.ends ws = each_done ws
each_by Kind.blank ws = tt
each_by Kind.comment ws = tt
each_by Kind.brace ws = tt
each_by Kind.quote ws = tt
each_by Kind.bracket ws = tt
each_by Kind.other ws = tt

each_reading : (skip : ℕ) (ws : List Word) (t : Bytes) → Each (reading skip ws t)
unfolding reading
each_reading zero ws [] = each_done ws
each_reading (suc skip) ws [] = each_done ws
each_reading zero ws (x ∷ xs) =
    each_append (done_by (kind_of (none_yet ws) x) ws) (reading (size_of (kind_of (none_yet ws) x) xs) (kept_by (kind_of (none_yet ws) x) ws ++ words_of (kind_of (none_yet ws) x) (x ∷ xs)) xs)
    (each_by (kind_of (none_yet ws) x) ws)
    (each_reading (size_of (kind_of (none_yet ws) x) xs) (kept_by (kind_of (none_yet ws) x) ws ++ words_of (kind_of (none_yet ws) x) (x ∷ xs)) xs)
each_reading (suc skip) ws (x ∷ xs) = each_reading skip ws xs

pub some_words : (t : Bytes) (ws : List Word) (cs : List (List Word)) → commands t ≡ ws ∷ cs → 0 < length ws
some_words t ws cs e = let v : Each (ws ∷ cs) = rw e at (each_reading 0 [] t) in v.0

-- ---- what an outcome tells
abbrev told : Outcome → ℕ
told ended = 0
told Next.refused = 1
told (Next.read ws cs e) = 2

abbrev words_in : Outcome → List Bytes
words_in ended = []
words_in Next.refused = []
words_in (Next.read ws cs e) = ws

abbrev rest_in : Outcome → List (List Word)
rest_in ended = []
rest_in Next.refused = []
rest_in (Next.read ws cs e) = cs

abbrev end_in : Outcome → ℕ
end_in ended = 0
end_in Next.refused = 0
end_in (Next.read ws cs e) = e

module _ (vs : List Variable) (o limit : ℕ) where
  kind_by : (b : Bool) (ws : List Bytes) (cs : List (List Word)) (e : ℕ) → told (cond b (Next.read ws cs e) Next.refused) ≡ cond b 2 1
  kind_by true ws cs e = refl
  kind_by false ws cs e = refl

  pub none_left : (cs : List (List Word)) → ended ≡ outcome vs o limit cs → cs ≡ []
  unfolding outcome
  none_left [] e = refl
  none_left (ws ∷ cs) e = absurd (go (leb (length ws) 128 && leb (o + costs vs ws) limit) (ap told e ∙ kind_by (leb (length ws) 128 && leb (o + costs vs ws) limit) (values vs ws) cs (o + costs vs ws)))
    where
      go : (b : Bool) → ◌≡◌ {A = ℕ} 0 (cond b 2 1) → ⊥
      go true q = omega arith
      go false q = omega arith

  -- a command that passes a limit
  pub record Past (cs : List (List Word)) : Type 0 where
    pub first : List Word
    pub others : List (List Word)
    pub are : cs ≡ first ∷ others
    pub over : (leb (length first) 128 && leb (o + costs vs first) limit) ≡ false

  pub past_left : (cs : List (List Word)) → Next.refused ≡ outcome vs o limit cs → Past cs
  unfolding outcome
  past_left [] e = absurd (let q : ◌≡◌ {A = ℕ} 1 0 = ap told e in omega arith)
  past_left (ws ∷ cs) e = record { first = ws; others = cs; are = refl; over = go (leb (length ws) 128 && leb (o + costs vs ws) limit) (ap told e ∙ kind_by (leb (length ws) 128 && leb (o + costs vs ws) limit) (values vs ws) cs (o + costs vs ws)) }
    where
      go : (b : Bool) → ◌≡◌ {A = ℕ} 1 (cond b 2 1) → b ≡ false
      go true q = absurd (omega arith)
      go false q = refl

  -- a command that is read
  pub record Found (cs : List (List Word)) (got : List Bytes) (left : List (List Word)) (e : ℕ) : Type 0 where
    pub first : List Word
    pub are : cs ≡ first ∷ left
    pub words : got ≡ values vs first
    pub end : e ≡ o + costs vs first
    pub under : (leb (length first) 128 && leb (o + costs vs first) limit) ≡ true

  found_by_lem : (ws : List Word) (cs : List (List Word)) (got : List Bytes) (left : List (List Word)) (e : ℕ) (b : Bool) → (leb (length ws) 128 && leb (o + costs vs ws) limit) ≡ b
      → Next.read got left e ≡ cond b (Next.read (values vs ws) cs (o + costs vs ws)) Next.refused → Found (ws ∷ cs) got left e
  found_by_lem ws cs got left e true q g = let z : left ≡ cs = ap rest_in g in record { first = ws; are = rw z; words = ap words_in g; end = ap end_in g; under = q }
  found_by_lem ws cs got left e false q g = absurd (let z : ◌≡◌ {A = ℕ} 2 1 = ap told g in omega arith)

  pub found_left : (cs : List (List Word)) (got : List Bytes) (left : List (List Word)) (e : ℕ) → Next.read got left e ≡ outcome vs o limit cs → Found cs got left e
  unfolding outcome
  found_left [] got left e g = absurd (let z : ◌≡◌ {A = ℕ} 2 0 = ap told g in omega arith)
  found_left (ws ∷ cs) got left e g = found_by_lem ws cs got left e (leb (length ws) 128 && leb (o + costs vs ws) limit) refl g

-- ---- a command's limits, from where its words are read
past_by : (w p l a x r : Bool) → (w && p) ≡ false → (w && (l && ((a && (p && x)) && r))) ≡ false
past_by false p l a x r e = refl
past_by true true l a x r e = absurd (no_true (sym e))
past_by true false false a x r e = refl
past_by true false true true x r e = refl
past_by true false true false x r e = refl

same_limit : (o sub cost : ℕ) → sub ≤ 16384 → leb (o + cost) (o + (16384 - sub)) ≡ leb (sub + cost) 16384
same_limit o sub cost h = go (leb (sub + cost) 16384) refl
  where
    go : (b : Bool) → leb (sub + cost) 16384 ≡ b → leb (o + cost) (o + (16384 - sub)) ≡ b
    go true q = let z : sub + cost ≤ 16384 = leb-true (sub + cost) 16384 q in le-leb (o + cost) (o + (16384 - sub)) (omega arith)
    go false q = let z : 16384 < sub + cost = leb-false (sub + cost) 16384 q in lt-leb (o + cost) (o + (16384 - sub)) (omega arith)

module _ (load : Bytes → Counted → Model → Reading) (path : Bytes) (vs : List Variable) (ws : List Word) (m : Model) (u : State) (fits : u.count.substituted ≤ 16384) where
  pub past_reads : (leb (length ws) 128 && leb (u.fill.end + costs vs ws) (u.fill.end + (16384 - u.count.substituted))) ≡ false → command load path vs ws (counted_of u) m ≡ refused 10 (u.count.commands + 1)
  past_reads e =
      let q : (leb (length ws) 128 && leb (u.count.substituted + costs vs ws) 16384) ≡ false = rw (same_limit u.fill.end u.count.substituted (costs vs ws) fits) at e in
      rw (past_by (leb (length ws) 128) (leb (u.count.substituted + costs vs ws) 16384) _ _ _ _ q)

  pub found_reads : (leb (length ws) 128 && leb (u.fill.end + costs vs ws) (u.fill.end + (16384 - u.count.substituted))) ≡ true → (e : ℕ) → e ≡ u.fill.end + costs vs ws
      → command load path vs ws (counted_of u) m ≡ step_from load path (command_named (line_of (values vs ws)).name) (line_of (values vs ws)) (counted_of (begun_at u e)) m
  found_reads g e h =
      let q : e - u.fill.end ≡ costs vs ws = omega (arith, h) in
      rw ((both (leb (length ws) 128) (leb (u.fill.end + costs vs ws) (u.fill.end + (16384 - u.count.substituted))) g).0, q)

  pub found_few : (leb (length ws) 128 && leb (u.fill.end + costs vs ws) (u.fill.end + (16384 - u.count.substituted))) ≡ true → (e : ℕ) → e ≡ u.fill.end + costs vs ws → u.count.substituted + (e - u.fill.end) ≤ 16384
  found_few g e h = omega (arith, h, leb-true (u.fill.end + costs vs ws) (u.fill.end + (16384 - u.count.substituted)) (both (leb (length ws) 128) (leb (u.fill.end + costs vs ws) (u.fill.end + (16384 - u.count.substituted))) g).1)
