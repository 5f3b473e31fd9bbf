-- create_supply_net: the nets that are known, and what the command does. Assumes nothing.
use Rattle.store.specs.declared.state.Few.{Few}
use Rattle.std.specs.Prelude.{ℕ, suc, ◌+◌, ◌≤◌, ◌<◌, ◌≡◌, refl, Bool, true, ◌||◌, List, [], ◌∷◌, ◌++◌, map, get_or, take, drop}
use Rattle.std.specs.List.{list_any}
use Rattle.std.proofs.Common.{arith, add-one, ◌∙◌, drop-cons}
use Rattle.std.proofs.Math.Path.{sym, ap}
use Rattle.std.proofs.Math.Bool.{false, cond}
use Rattle.std.proofs.Math.ListN.{length}
use Rattle.std.proofs.Math.Seq.{drop-length, length-take-le, get_or-take}
use Rattle.text.specs.Ascii.{Bytes}
use Rattle.text.specs.Compare.{same}
use Rattle.text.specs.Scan.{any}
use Rattle.spans.specs.Span.{bytes}
use Rattle.spans.specs.Reach.{reach, none_reach}
use Rattle.spans.specs.declared.span.Span.{Span}
use Rattle.names.specs.Name.{name_of as Name·nameOf, Makes}
use Rattle.names.specs.declared.name.Form.TheVariants.{Word}
use Rattle.names.specs.declared.name.Name.{Name}
use Rattle.tcl.specs.Arguments.{name_of}
use Rattle.args.specs.View.{words_from}
use Rattle.model.specs.Scope.{scoped}
use Rattle.model.specs.Records.{Model, with_nets}
use Rattle.model.specs.Commands.{net_command}
use Rattle.model.specs.Within.{records_fit}
use Rattle.store.specs.Strings.{string, span_of, below_of}
use Rattle.store.specs.View.{Store, model_of}
use Rattle.store.specs.Added.{net_added}
use Rattle.store.specs.Tables.{sized_length}
use Rattle.store.specs.Fits.{fit_nets}
use Rattle.store.specs.Variables.{now_fits}
use Rattle.store.specs.Steps.{net_view, net_shaped, net_bounded}
use Rattle.store.specs.declared.stored.Below.{Below}
use Rattle.store.specs.declared.state.State.{State}
use Rattle.made.specs.declared.Made.{Made}
use Rattle.made.specs.declared.Brief.{Brief}
use Rattle.made.specs.declared.Deed.TheVariants as deed
use Rattle.made.specs.Made.{brief_of, fine_made, full_made, reach_of, Ready, Did, Does}
use Rattle.made.specs.Dids.{one_over, did_full, did_nothing}
use Rattle.made.specs.Done.{did_state}
use Rattle.portcmds.specs.Named.{BelowIs}

-- whether a stored name is w
abbrev pub is_called : Bytes → Bytes → Below → Bool
is_called mem w b = same (below_of mem b) w

-- a stored name, as it is read
pub named_is : (mem : Bytes) (b : Below) (p q : Span) (r : Name) → p ≡ span_of b.scope → q ≡ span_of b.word → Makes mem p q Word r → Name·nameOf mem r ≡ below_of mem b
named_is mem b p q r e g m = m.is ∙ ap (λ (u : Span). scoped (bytes mem u) (bytes mem q)) e ∙ ap (λ (u : Span). scoped (string mem b.scope) (bytes mem u)) g

pub called_is : (mem w : Bytes) (b : Below) (y : Name) (k r : Bool) → Name·nameOf mem y ≡ below_of mem b → k ≡ same (Name·nameOf mem y) w → k ≡ r → is_called mem w b ≡ r
called_is mem w b y k r e h t = ap (λ (u : Bytes). same u w) (sym e) ∙ sym h ∙ t

-- ---- looking for one that passes a test: of the first n elements i are passed, and none of them passes it
pub record Seeks {A : Type 0} (t : A → Bool) (l : List A) (n i : ℕ) : Type 0 where
  pub before : i ≤ n
  pub rest : any t (take n l) ≡ any t (drop i (take n l))

module _ {A : Type 0} (t : A → Bool) (l : List A) (n : ℕ) where
  -- none is passed at first
  pub seeks_start : Seeks t l n 0
  seeks_start = record { before = omega arith; rest = refl }

  -- all are passed: none passes the test
  pub seeks_end : (i : ℕ) → Seeks t l n i → n ≤ length l → n ≤ i → false ≡ any t (take n l)
  unfolding any
  seeks_end i k q h =
      let e : i ≡ length (take n l) = omega (arith, k.before, length-take-le n l q) in
      let z : any t (drop i (take n l)) ≡ false = rw (e, drop-length (take n l)) in
      sym (k.rest ∙ z)

  module _ (i : ℕ) (d : A) (k : Seeks t l n i) (q : n ≤ length l) (h : i < n) where
    this : any t (drop i (take n l)) ≡ t (get_or l i d) || any t (drop (suc i) (take n l))
    unfolding any
    this = rw (drop-cons (take n l) i d (omega (arith, length-take-le n l q)), get_or-take n l i d h)

    -- the next one passes the test
    pub seeks_here : t (get_or l i d) ≡ true → true ≡ any t (take n l)
    seeks_here e = sym (k.rest ∙ this ∙ rw e)

    -- the next one does not, and is passed too
    pub seeks_on : t (get_or l i d) ≡ false → Seeks t l n (i + 1)
    seeks_on e = record { before = omega arith; rest = k.rest ∙ this ∙ rw (e, add-one i) }

-- whether one passes a test, in the words of the library
pub any_list : {A : Type 0} (t : A → Bool) (l : List A) → any t l ≡ list_any t l
unfolding any
any_list t [] = refl
any_list t (x ∷ l) = rw (any_list t l)

any_map : {A B : Type 0} (f : A → B) (t : B → Bool) (u : A → Bool) → ((x : A) → u x ≡ t (f x)) → (l : List A) → any t (map f l) ≡ any u l
unfolding any
any_map f t u e [] = refl
any_map f t u e (x ∷ l) = rw (e x, any_map f t u e l)

-- ---- the command
module _ (long : ℕ) (mem : Bytes) (words : List ℕ) (n : ℕ) (st : Store) (log : Bytes) (s : State) (v : Ready long mem words n st s) where
  abbrev ws : List Bytes
  ws = words_from mem words n 1

  abbrev now : Model
  now = model_of mem st s log

  count : length now.nets ≡ s.nets.n
  unfolding model_of
  count = sized_length (below_of mem) v.shaped.nets

  module _ (net : Below) (b : Bool) (a : BelowIs mem words n s.head.scope net) (e : b ≡ any (is_called mem (below_of mem net)) (take s.nets.n s.nets.all)) where
    net_is_lem : scoped now.scope (name_of ws) ≡ below_of mem net
    unfolding model_of
    net_is_lem = sym a.is

    abbrev more : List Bytes
    more = now.nets ++ (below_of mem net ∷ [])

    known_is : any (λ (x : Bytes). same x (below_of mem net)) now.nets ≡ b
    unfolding model_of
    known_is = any_map (below_of mem) (λ (x : Bytes). same x (below_of mem net)) (is_called mem (below_of mem net)) (λ y. refl) (take s.nets.n s.nets.all) ∙ sym e

    told : net_command now ws ≡ cond b now (with_nets now more)
    unfolding net_command
    told = ap (λ (y : Bytes). cond (any (λ (x : Bytes). same x y) now.nets) now (with_nets now (now.nets ++ (y ∷ [])))) net_is_lem ∙ ap (λ (k : Bool). cond k now (with_nets now more)) known_is

    pub net_known : (m : Made) → b ≡ true → m ≡ fine_made s → Did long mem st log s m (net_command now ws)
    net_known m t g =
        let q : net_command now ws ≡ now = told ∙ rw t in
        rw (g, q) (did_nothing long mem st log s v.shaped v.bounded)

    told_more : b ≡ false → net_command now ws ≡ with_nets now more
    told_more t = told ∙ rw t

    pub net_full : (m : Made) → b ≡ false → 32 ≤ s.nets.n → m ≡ full_made s → Did long mem st log s m (net_command now ws)
    net_full m t h g =
        rw g
        (did_full long mem st log s v.shaped v.bounded (net_command now ws)
        (ap records_fit (told_more t) ∙ fit_nets now (now_fits mem st s log v.shaped) more ∙ one_over now.nets (below_of mem net) s.nets.n 32 count h))

    pub net_fine : (u : State) (m : Made) → b ≡ false → s.nets.n < 32 → u ≡ net_added s net → m ≡ fine_made u → Did long mem st log s m (net_command now ws)
    net_fine u m t h eu g =
        let l : s.nets.n < length s.nets.all = omega (arith, v.shaped.nets.long) in
        rw (g, eu)
        (did_state long mem st log s v.shaped v.bounded (net_added s net) (net_command now ws)
        (net_view mem st s log net l ∙ sym (told_more t))
        (net_shaped st s v.shaped net h)
        (net_bounded (reach_of long) (length mem) st s v.bounded net l (omega (arith, a.within (reach long) (none_reach long), v.line, v.bounded.scope)))
        (record { count = refl; scope = refl; end = refl; log = refl; words = refl }))

-- ---- its deed
module _ (files area : Bytes) (words : List ℕ) (n : ℕ) (b : Brief) (t : Few Below) (net : Below) (k : Bool) where
  abbrev does : Model → Model
  does m = net_command m (words_from (files ++ area) words n 1)

  abbrev is_known : Few Below → Bool
  is_known u = any (is_called (files ++ area) (below_of (files ++ area) net)) (take u.n u.all)

  pub nets_known : BelowIs (files ++ area) words n b.scope net → k ≡ is_known t → k ≡ true → Does files area words n (λ (s : State). (brief_of s ≡ b) × (s.nets ≡ t)) deed.Nothing does
  nets_known a e h s q =
      let a' : BelowIs (files ++ area) words n s.head.scope net = rw (ap (λ (z : Brief). z.scope) q.0) a in
      let e' : k ≡ is_known s.nets = rw q.1 e in
      record { fits = tt; did = λ st log v. net_known (length files) (files ++ area) words n st log s v net k a' e' (fine_made s) h refl }

  pub nets_full : BelowIs (files ++ area) words n b.scope net → k ≡ is_known t → k ≡ false → 32 ≤ t.n → Does files area words n (λ (s : State). (brief_of s ≡ b) × (s.nets ≡ t)) deed.Full does
  nets_full a e h l s q =
      let a' : BelowIs (files ++ area) words n s.head.scope net = rw (ap (λ (z : Brief). z.scope) q.0) a in
      let e' : k ≡ is_known s.nets = rw q.1 e in
      record { fits = tt; did = λ st log v. net_full (length files) (files ++ area) words n st log s v net k a' e' (full_made s) h (rw q.1 l) refl }

  pub nets_more : BelowIs (files ++ area) words n b.scope net → k ≡ is_known t → k ≡ false → t.n < 32 → Does files area words n (λ (s : State). (brief_of s ≡ b) × (s.nets ≡ t)) (deed.Net net) does
  nets_more a e h l s q =
      let a' : BelowIs (files ++ area) words n s.head.scope net = rw (ap (λ (z : Brief). z.scope) q.0) a in
      let e' : k ≡ is_known s.nets = rw q.1 e in
      let l' : s.nets.n < 32 = rw q.1 l in
      record { fits = l'; did = λ st log v. net_fine (length files) (files ++ area) words n st log s v net k a' e' (net_added s net) (fine_made (net_added s net)) h l' refl refl }
