pub mod EventFlaws
pub mod InTheWay
pub mod Obstacles
pub mod Places
