pub mod Reading
pub mod SleepLaws
pub mod SleptAs
pub mod SwitchLaws
