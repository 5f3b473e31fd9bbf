-- Words of states more: what they leave in the numbers, in the store and in the state. Assumes nothing.
use Rattle.std.specs.Prelude.{ℕ, suc, ◌+◌, ◌-◌, ◌≤◌, ◌<◌, ◌≡◌, refl, List, [], ◌∷◌, ◌++◌, length, get_or, take, drop}
use Rattle.std.proofs.Common.{arith, add-zero, sym, ◌∙◌, append_assoc, append-nil, length-append, length-drop}
use Rattle.std.proofs.lemmas.List.{take-append-le, drop-append-le}
use Rattle.text.specs.Ascii.{Bytes}
use Rattle.store.specs.View.{Store, switch_of, port_state_of, model_of}
use Rattle.store.specs.Order.{Within, switch_words, port_words, Shaped, Bounded}
use Rattle.store.specs.Rows.{word_place, word_put, words_in, rows_in, store_of, words_put_lem, word_put_before, word_put_behind, word_put_long, rows_kept}
use Rattle.store.specs.Tables.{map_same, within_le, within_append}
use Rattle.store.specs.declared.stored.Stored.{Stored}
use Rattle.store.specs.declared.state.Switch.{Switch}
use Rattle.store.specs.declared.state.PortState.{PortState}
use Rattle.store.specs.declared.state.State.{State}
use Rattle.made.specs.Made.{words_set}

-- the numbers with words put from the k-th on
unfoldable pub words_put : List ℕ → ℕ → List Stored → List ℕ
words_put l k [] = l
words_put l k (w ∷ ws) = words_put (word_put l k w) (k + 1) ws

-- the store with words more
abbrev pub worded : Store → List Stored → Store
worded st ws = record { rows = st.rows; words = st.words ++ ws }

-- ---- the numbers

pub words_long : (l : List ℕ) (k : ℕ) (ws : List Stored) → length (words_put l k ws) ≡ length l
unfolding words_put
words_long l k [] = refl
words_long l k (w ∷ ws) = words_long (word_put l k w) (k + 1) ws ∙ word_put_long l k w

-- no other number is changed
pub words_before : (l : List ℕ) (k : ℕ) (ws : List Stored) (i : ℕ) → i < word_place k → get_or (words_put l k ws) i 0 ≡ get_or l i 0
unfolding words_put
words_before l k [] i h = refl
words_before l k (w ∷ ws) i h = words_before (word_put l k w) (k + 1) ws i (omega arith) ∙ word_put_before l k w i h

pub words_behind : (l : List ℕ) (k : ℕ) (ws : List Stored) (i : ℕ) → word_place (k + length ws) ≤ i → get_or (words_put l k ws) i 0 ≡ get_or l i 0
unfolding words_put
words_behind l k [] i h = refl
words_behind l k (w ∷ ws) i h = words_behind (word_put l k w) (k + 1) ws i (omega arith) ∙ word_put_behind l k w i (omega arith)

-- the rows are kept
pub words_rows : (l : List ℕ) (k : ℕ) (ws : List Stored) (j : ℕ) → j ≤ 1024 → rows_in (words_put l k ws) j ≡ rows_in l j
unfolding words_put
words_rows l k [] j h = refl
words_rows l k (w ∷ ws) j h = words_rows (word_put l k w) (k + 1) ws j h ∙ rows_kept l k w j h

-- and the words are those before, and these
pub words_more : (l : List ℕ) (k : ℕ) (ws : List Stored) → word_place (k + length ws) ≤ length l → words_in (words_put l k ws) (k + length ws) ≡ words_in l k ++ ws
unfolding words_put
words_more l k [] h = rw (add-zero, append-nil)
words_more l k (w ∷ ws) h =
    let q : k + suc (length ws) ≡ k + 1 + length ws = omega arith in
    rw q (words_more (word_put l k w) (k + 1) ws (omega (arith, word_put_long l k w)) ∙ rw (words_put_lem l k w (omega arith)) (append_assoc (words_in l k) (w ∷ []) ws))

-- a word more behind them
pub words_push : (l : List ℕ) (k : ℕ) (ws : List Stored) (w : Stored) → word_put (words_put l k ws) (k + length ws) w ≡ words_put l k (ws ++ (w ∷ []))
unfolding words_put
words_push l k [] w = rw add-zero
words_push l k (x ∷ ws) w =
    let q : k + suc (length ws) ≡ k + 1 + length ws = omega arith in
    rw q (words_push (word_put l k x) (k + 1) ws w)

pub words_then : (l : List ℕ) (k : ℕ) (ws vs : List Stored) → words_put (words_put l k ws) (k + length ws) vs ≡ words_put l k (ws ++ vs)
unfolding words_put
words_then l k [] vs = rw add-zero
words_then l k (x ∷ ws) vs =
    let q : k + suc (length ws) ≡ k + 1 + length ws = omega arith in
    rw q (words_then (word_put l k x) (k + 1) ws vs)

-- ---- the records that have words read the same
module _ (mem : Bytes) (ws vs : List Stored) where
  part_same : (f c : ℕ) → f + c ≤ length ws → take c (drop f (ws ++ vs)) ≡ take c (drop f ws)
  part_same f c h =
      let d : length (drop f ws) ≡ length ws - f = length-drop f ws in
      rw (drop-append-le f ws vs (omega arith)) (take-append-le c (drop f ws) vs (omega arith))

  switch_same : (x : Switch) → switch_words x ≤ length ws → switch_of mem (ws ++ vs) x ≡ switch_of mem ws x
  unfolding switch_of
  switch_same x h = rw (part_same x.first x.ons (omega arith), part_same (x.first + x.ons) x.offs h)

  port_same : (x : PortState) → port_words x ≤ length ws → port_state_of mem (ws ++ vs) x ≡ port_state_of mem ws x
  unfolding port_state_of
  port_same x h = rw (part_same x.first x.count h)

module _ (st : Store) (s : State) (v : Shaped st s) (vs : List Stored) where
  pub grown_view : (mem log : Bytes) → model_of mem (worded st vs) (words_set s (s.fill.words + length vs)) log ≡ model_of mem st s log
  unfolding model_of
  grown_view mem log =
      rw (
        map_same (switch_of mem st.words) (switch_of mem (st.words ++ vs)) switch_words v.switch_words (switch_same mem st.words vs),
        map_same (port_state_of mem st.words) (port_state_of mem (st.words ++ vs)) port_words v.port_words (port_same mem st.words vs),
      )

  longer : length (st.words ++ vs) ≡ s.fill.words + length vs
  longer = length-append st.words vs ∙ rw v.words

  pub grown_shaped : Shaped (worded st vs) (words_set s (s.fill.words + length vs))
  grown_shaped =
      let h : length st.words ≤ length (st.words ++ vs) = omega (arith, length-append st.words vs) in
      record { scope = v.scope; domains = v.domains; nets = v.nets; ports = v.ports; switches = v.switches; isolations = v.isolations; retentions = v.retentions; shifters = v.shifters; portstates = v.portstates; tables = v.tables; long = v.long; variables = v.variables; switch_words = within_le switch_words h v.switch_words; port_words = within_le port_words h v.port_words; row_tables = v.row_tables; rows = v.rows; words = sym longer; warnings = v.warnings; warned = v.warned }

pub grown_bounded : (e : Stored → ℕ) (n : ℕ) (st : Store) (s : State) (vs : List Stored) → Bounded e n st s → Within e n vs → (k : ℕ) → Bounded e n (worded st vs) (words_set s k)
grown_bounded e n st s vs v w k = record { scope = v.scope; top = v.top; domains = v.domains; nets = v.nets; ports = v.ports; switches = v.switches; isolations = v.isolations; retentions = v.retentions; shifters = v.shifters; portstates = v.portstates; tables = v.tables; variables = v.variables; rows = v.rows; words = within_append e v.words w }

-- ---- the store as the numbers hold it grows by the words
pub store_more : (l : List ℕ) (s : State) (ws : List Stored) → s.fill.rows ≤ 1024 → word_place (s.fill.words + length ws) ≤ length l → store_of (words_put l s.fill.words ws) (words_set s (s.fill.words + length ws)) ≡ worded (store_of l s) ws
store_more l s ws h g = λ i. record { rows = words_rows l s.fill.words ws s.fill.rows h i; words = words_more l s.fill.words ws g i }
