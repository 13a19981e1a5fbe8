pub mod SettingOut
