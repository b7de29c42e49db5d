-- The reading state: whether settings were read and whether the end was, what goes with the table that the file gives, and the bound. It is
-- built here and nowhere else. Assumes nothing.
use Rattle.std.specs.Prelude.{true, false}
use Rattle.plate.specs.Head.{cleared_head, settled_head, more}
use Rattle.job.specs.declared.Asked.{Asked}
use Rattle.job.specs.declared.State.{State}

-- nothing was read
abbrev pub start_state : State
start_state = record { begun = false; ended = false; head = cleared_head 0 0; bound = 0 }

-- settings were read; they leave the column count as it stands
abbrev pub begin : State → Asked → State
begin st a = record {
  begun = true;
  ended = st.ended;
  head = settled_head a.height a.members st.head;
  bound = a.bound;
}

-- one column more was read
abbrev pub counted : State → State
counted st = record { begun = st.begun; ended = st.ended; head = more st.head; bound = st.bound }

-- the end was read
abbrev pub finish : State → State
finish st = record { begun = st.begun; ended = true; head = st.head; bound = st.bound }

-- what the settings that were read ask for
abbrev pub asked_of : State → Asked
asked_of st = record { height = st.head.height; members = st.head.members; bound = st.bound }
