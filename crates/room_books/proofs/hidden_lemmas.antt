pub mod HiddenStarts
