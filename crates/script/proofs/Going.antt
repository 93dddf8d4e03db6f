-- A run on its way: the calls read so far are carried out, and their answers stand in the buffer.
use Rattle.std.proofs.Common.{◌≡◌, ℕ, ◌*◌, ◌≤◌, List, ◌∷◌, ◌++◌, length, drop, refl, append_assoc, arith, drop-drop, length-drop}
use Rattle.std.proofs.lemmas.Grind.{common_steps}
use Rattle.std.proofs.lemmas.Slice.{drop-put_mid}
use Rattle.datasheet.specs.Machines.{left_by}
use Rattle.script.specs.Steps.{Kinds}
use Rattle.script.specs.Reading.{Reading, reads, stops, read_script}
use Rattle.script.specs.Machines.{Machine, reply, replies}
use Rattle.script.specs.Views.{ahead}

module _ {X C A : Type 0} (kinds : Kinds C) (m : Machine X C A) where
  -- The run of n calls of a script, from x and the buffer out, has come to y, to the bytes given, with this rest of the buffer
  -- free behind them, and to a script that is read as k from there on.
  pub record Going (x : X) (script out : List ℕ) (n : ℕ) (y : X) (given free : List ℕ) (k : Reading C) : Type 0 where
    pub all : List C
    pub rest : List C
    pub read : read_script kinds script ≡ reads all
    pub many : length all ≡ n
    pub coming : k ≡ reads rest
    pub left : left_by m.after x all ≡ left_by m.after y rest
    pub bytes : replies m x all ≡ given ++ replies m y rest
    pub behind : free ≡ drop (length given) out
    pub room : 9 * length rest ≤ length free

  module _ {x : X} {script out : List ℕ} {n : ℕ} {y : X} {given free : List ℕ} {k : Reading C} (h : Going x script out n y given free k) where
    -- one call more, and its answer behind those that are there
    pub goes_on : (c : C) (k' : Reading C) (z : X) (given' free' : List ℕ) → k ≡ ahead c k' → z ≡ m.after y c →
        length (reply m y c) ≤ 9 → given' ≡ given ++ reply m y c → free' ≡ drop (length (reply m y c)) free → Going x script out n z given' free' k'
    goes_on c (reads rest) z given' free' is moved few put left =
        record {
          all = h.all;
          rest = rest;
          read = h.read;
          many = h.many;
          coming = refl;
          left = grind arith;
          bytes = grind (arith, append_assoc);
          behind = grind (arith, common_steps);
          room = grind (arith, length-drop);
        }
    goes_on c (stops why) z given' free' is moved few put left = absurd (grind arith)

-- bytes put behind those that are there
pub ruleset placing = (drop-put_mid, drop-drop)
