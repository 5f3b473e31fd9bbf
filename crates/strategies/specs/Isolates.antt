-- Theorem: what the definitions isolate is what the strategies gain. Assumes nothing.
use Rattle.std.specs.Prelude.{ℕ, ◌+◌, ◌≡◌, Bool, length, get_or, Option, None, Some}
use Rattle.std.proofs.Common.{arith, ◌∙◌, length-append}
use Rattle.std.proofs.Math.Path.{refl, sym, ap}
use Rattle.std.proofs.Math.Bool.{true, false, cond, not}
use mathlib.Core.List.{List, [], ◌∷◌, ◌++◌, flat_map, append_assoc, append-nil}
use Rattle.std.proofs.Math.Seq.{get_or-append_seam}
use Rattle.text.specs.Ascii.{Bytes}
use Rattle.design.specs.Lists.{those}
use Rattle.model.specs.Records.{Domain, Isolation}
use Rattle.model.specs.Commands.{or_else}
use Rattle.texts.specs.Setting.{Setting, hier, slash_path}
use Rattle.texts.specs.Isolation.{Isolated, Target, lowered, is_clamp, active_of, domain_named, outputs_of, element_targets, key_of, Cover, no_cover, remarked, isolated_by, reported, covered, isolation_line, applies_to, is_outputs, in_domain, with_domain, with_signal, strategies, has_elements, isolation}
use Rattle.isolated.specs.Table.{Kept, kept}
use Rattle.keep.specs.Gains.{Aim, Gain, behind, gains}
use Rattle.cover.specs.Aims.{output_aims, element_aims}
use Rattle.cover.specs.Covering.{target_aims, outputs_aims, element_aims_lem, flat_aims, shown, Shows, shown_shows, shown_stay, shown_behind, covering_is}
use Rattle.remarks.specs.Lines.{no_signal, unknown_domain, not_outputs, clamp_unknown}
use Rattle.strategies.specs.Gains.{remark_gain, line_gain, covered_gain, domain_gain, found_gain, named, signal_gain, strategy_gain, chosen, round_gain, isolation_gain}

-- ---- how a port that is kept is shown: by its strategy, the n-th of these

abbrev pub shown_by : Setting → Isolation → Bytes → Bytes → Isolated
shown_by s i key net =
    record {
      strategy = i.name;
      port = slash_path s key;
      parent = hier s net;
      clamp = lowered i.clamp;
      signal = hier s (or_else i.signal []);
      active = active_of i;
    }

abbrev pub no_strategy : Isolation
no_strategy = record { name = []; domain = []; applies_to = None; elements = []; clamp = []; signal = None; sense = []; power = None; ground_net = None }

abbrev pub isolated_of : Setting → List Isolation → Kept → Isolated
isolated_of s is x = shown_by s (get_or is x.strategy no_strategy) x.key x.net

-- f shows what strategy n keeps as the definitions do
pub record Shown (s : Setting) (f : Kept → Isolated) (n : ℕ) (i : Isolation) : Type 0 where
  pub by : (sig : Bytes) → i.signal ≡ Some sig → (t : Target) (w : Bytes) → f (kept n (key_of t) w) ≡ isolated_by s i sig t w

abbrev pub ShownAll : Setting → (Kept → Isolated) → ℕ → List Isolation → Type 0
ShownAll s f n [] = Unit {0}
ShownAll s f n (i ∷ is) = Shown s f n i × ShownAll s f (n + 1) is

shown_at : (s : Setting) (front : List Isolation) (i : Isolation) (is : List Isolation) (n : ℕ) → n ≡ length front → Shown s (isolated_of s (front ++ i ∷ is)) n i
shown_at s front i is n e = record { by = λ sig h t w. rw (e, get_or-append_seam front i is no_strategy, h) }

shown_from : (s : Setting) (front rest : List Isolation) (n : ℕ) → n ≡ length front → ShownAll s (isolated_of s (front ++ rest)) n rest
shown_from s front [] n e = tt
shown_from s front (i ∷ rest) n e =
    let a : (front ++ (i ∷ [])) ++ rest ≡ front ++ i ∷ rest = append_assoc front (i ∷ []) rest in
    let l : n + 1 ≡ length (front ++ (i ∷ [])) = rw (length-append front (i ∷ [])) (omega (arith, e)) in
    (shown_at s front i rest n e, rw a at (shown_from s (front ++ (i ∷ [])) rest (n + 1) l))

pub shown_all : (s : Setting) (is : List Isolation) → ShownAll s (isolated_of s is) 0 is
shown_all s is = shown_from s [] is 0 refl

-- ---- a strategy

module _ (s : Setting) (f : Kept → Isolated) where
  remarked_is : (t : Bytes) (c : Cover) (l : List Kept) → Shows f c l → remarked c t ≡ shown f c (remark_gain t l)
  remarked_is t c l h = rw (h.keys, h.ports, append-nil c.report)

  reported_is : (t : Bytes) (c : Cover) (g : Gain) → reported (shown f c g) t ≡ shown f c (behind g (line_gain t g.rows))
  reported_is t c g = rw (append-nil g.remarks, append_assoc c.report g.report t)

  module _ (n : ℕ) (i : Isolation) (sh : Shown s f n i) (sig : Bytes) (e : i.signal ≡ Some sig) where
    covered_is : (ts : List Target) (c : Cover) (l : List Kept) → Shows f c l → covered s i sig ts c ≡ shown f c (covered_gain n i sig (target_aims s ts) l)
    unfolding covered_gain
    covered_is ts c l h =
        ap (λ (x : Cover). reported x (isolation_line i sig)) (covering_is s i sig n f (sh.by sig e) ts c l h)
        ∙ reported_is (isolation_line i sig) c (gains n i.name (target_aims s ts) l)

    in_domain_is : (x : Domain) (c : Cover) (l : List Kept) → Shows f c l → (es : List Bytes) → in_domain s i sig x c es ≡ shown f c (domain_gain s.design s.base n i sig x es l)
    in_domain_is x c l h [] = go (is_outputs (applies_to i))
      where
        go : (b : Bool) → cond b (covered s i sig (flat_map (outputs_of s) x.elements) c) (remarked c (not_outputs i.name (applies_to i)))
            ≡ shown f c (cond b (covered_gain n i sig (flat_map (output_aims s.design s.base) x.elements) l) (remark_gain (not_outputs i.name (applies_to i)) l))
        go true = covered_is (flat_map (outputs_of s) x.elements) c l h ∙ ap (λ (ps : List Aim). shown f c (covered_gain n i sig ps l)) (flat_aims s (outputs_of s) (output_aims s.design s.base) (outputs_aims s) x.elements)
        go false = remarked_is (not_outputs i.name (applies_to i)) c l h
    in_domain_is x c l h (y ∷ es) =
        covered_is (flat_map (element_targets s) (y ∷ es)) c l h ∙ ap (λ (ps : List Aim). shown f c (covered_gain n i sig ps l)) (flat_aims s (element_targets s) (element_aims s.design s.base) (element_aims_lem s) (y ∷ es))

    with_domain_is : (c : Cover) (l : List Kept) → Shows f c l → (o : Option Domain) → with_domain s i sig c o ≡ shown f c (found_gain s.design s.base n i sig l o)
    with_domain_is c l h None = remarked_is (unknown_domain i.name i.domain) c l h
    with_domain_is c l h (Some x) = in_domain_is x c l h i.elements

  strategy_is : (n : ℕ) (i : Isolation) → Shown s f n i → (c : Cover) (l : List Kept) → Shows f c l → with_signal s i c i.signal ≡ shown f c (strategy_gain s.design s.base s.records.domains n i l)
  unfolding strategy_gain
  strategy_is n i sh c l h = go i.signal refl
    where
      known : (sig : Bytes) → i.signal ≡ Some sig → (b : Bool) → cond b (with_domain s i sig c (domain_named s.records i.domain)) (remarked c (clamp_unknown i.name (lowered i.clamp)))
          ≡ shown f c (cond b (found_gain s.design s.base n i sig l (named s.records.domains i.domain)) (remark_gain (clamp_unknown i.name (lowered i.clamp)) l))
      known sig e true = with_domain_is n i sh sig e c l h (domain_named s.records i.domain)
      known sig e false = remarked_is (clamp_unknown i.name (lowered i.clamp)) c l h

      go : (o : Option Bytes) → i.signal ≡ o → with_signal s i c o ≡ shown f c (signal_gain s.design s.base s.records.domains n i l o)
      go None e = remarked_is (no_signal i.name) c l h
      go (Some sig) e = known sig e (is_clamp (lowered i.clamp))

  -- ---- a round

  round_is : (having : Bool) (n : ℕ) (is : List Isolation) → ShownAll s f n is → (c : Cover) (l : List Kept) → Shows f c l
      → strategies s (those (chosen having) is) c ≡ shown f c (round_gain s.design s.base s.records.domains having n is l)
  unfolding strategies those round_gain
  round_is having n [] sh c l h = sym (shown_stay f c l h)
  round_is having n (i ∷ is) sh c l h = go (chosen having i) (λ c' l' h'. round_is having (n + 1) is sh.1 c' l' h')
    where
      go : (b : Bool) → ((c' : Cover) (l' : List Kept) → Shows f c' l' → strategies s (those (chosen having) is) c' ≡ shown f c' (round_gain s.design s.base s.records.domains having (n + 1) is l'))
          → strategies s (cond b (i ∷ those (chosen having) is) (those (chosen having) is)) c
          ≡ shown f c (cond b (behind (strategy_gain s.design s.base s.records.domains n i l) (round_gain s.design s.base s.records.domains having (n + 1) is (strategy_gain s.design s.base s.records.domains n i l).rows)) (round_gain s.design s.base s.records.domains having (n + 1) is l))
      go true r =
          ap (strategies s (those (chosen having) is)) (strategy_is n i sh.0 c l h)
          ∙ r (shown f c (strategy_gain s.design s.base s.records.domains n i l)) (strategy_gain s.design s.base s.records.domains n i l).rows (shown_shows f c (strategy_gain s.design s.base s.records.domains n i l))
          ∙ shown_behind f c (strategy_gain s.design s.base s.records.domains n i l) (round_gain s.design s.base s.records.domains having (n + 1) is (strategy_gain s.design s.base s.records.domains n i l).rows)
      go false r = r c l h

  in_turn : (xs ys : List Isolation) (c : Cover) → strategies s (xs ++ ys) c ≡ strategies s ys (strategies s xs c)
  unfolding strategies
  in_turn [] ys c = refl
  in_turn (x ∷ xs) ys c = in_turn xs ys (with_signal s x c x.signal)

  -- ---- all of them

  pub isolation_is : ShownAll s f 0 s.records.isolations → isolation s ≡ shown f no_cover (isolation_gain s.design s.base s.records.domains s.records.isolations [])
  unfolding isolation isolation_gain
  isolation_is sh =
      let is = s.records.isolations in
      let g = round_gain s.design s.base s.records.domains true 0 is [] in
      in_turn (those has_elements is) (those (λ i. not (has_elements i)) is) no_cover
      ∙ ap (strategies s (those (λ i. not (has_elements i)) is)) (round_is true 0 is sh no_cover [] (record { keys = refl; ports = refl }))
      ∙ round_is false 0 is sh (shown f no_cover g) g.rows (shown_shows f no_cover g)
      ∙ shown_behind f no_cover g (round_gain s.design s.base s.records.domains false 0 is g.rows)
